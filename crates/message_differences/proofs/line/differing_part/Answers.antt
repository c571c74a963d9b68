use Rattle.std.proofs.Common.{rules, ◌≡◌, true, false, map, bytes_eq, sym, ◌∙◌}
use Rattle.spec_messages.specs.Policy.{same_path}
use Rattle.http_message.specs.Reading.{request_line}
use Rattle.policy_documents.specs.View.{pattern_view}
use Rattle.message_differences.proofs.LineLemmas.{begins_method, begins_scheme, begins_authority, begins_version, begins_path}
use Rattle.message_differences.proofs.line.differing_part.Goals as goal

pub returns-then-not-is_same_text : goal.returns-then-not-is_same_text
returns-then-not-is_same_text c =
    let a = request_line c.args.before.now in
    let b = request_line c.args.after.now in
    let e0 : c.is_same_text.result ≡ false = search rules in
    λ rest. begins_method (bytes_eq a.method b.method) (bytes_eq a.scheme b.scheme) (bytes_eq a.authority b.authority) (bytes_eq a.version b.version) (same_path (map pattern_view c.args.patterns.now) 0 a.segments b.segments) rest (sym c.is_same_text.ensures ∙ e0)

pub returns-then-not-is_same_text-2 : goal.returns-then-not-is_same_text-2
returns-then-not-is_same_text-2 c =
    let a = request_line c.args.before.now in
    let b = request_line c.args.after.now in
    let e0 : c.is_same_text.result ≡ true = search rules in
    let e1 : c.is_same_text-2.result ≡ false = search rules in
    λ rest. begins_scheme (bytes_eq a.method b.method) (bytes_eq a.scheme b.scheme) (bytes_eq a.authority b.authority) (bytes_eq a.version b.version) (same_path (map pattern_view c.args.patterns.now) 0 a.segments b.segments) rest (sym c.is_same_text.ensures ∙ e0) (sym c.is_same_text-2.ensures ∙ e1)

pub returns-then-not-is_same_text-3 : goal.returns-then-not-is_same_text-3
returns-then-not-is_same_text-3 c =
    let a = request_line c.args.before.now in
    let b = request_line c.args.after.now in
    let e0 : c.is_same_text.result ≡ true = search rules in
    let e1 : c.is_same_text-2.result ≡ true = search rules in
    let e2 : c.is_same_text-3.result ≡ false = search rules in
    λ rest. begins_authority (bytes_eq a.method b.method) (bytes_eq a.scheme b.scheme) (bytes_eq a.authority b.authority) (bytes_eq a.version b.version) (same_path (map pattern_view c.args.patterns.now) 0 a.segments b.segments) rest (sym c.is_same_text.ensures ∙ e0) (sym c.is_same_text-2.ensures ∙ e1) (sym c.is_same_text-3.ensures ∙ e2)

pub returns-then-not-is_same_text-4 : goal.returns-then-not-is_same_text-4
returns-then-not-is_same_text-4 c =
    let a = request_line c.args.before.now in
    let b = request_line c.args.after.now in
    let e0 : c.is_same_text.result ≡ true = search rules in
    let e1 : c.is_same_text-2.result ≡ true = search rules in
    let e2 : c.is_same_text-3.result ≡ true = search rules in
    let e3 : c.is_same_text-4.result ≡ false = search rules in
    λ rest. begins_version (bytes_eq a.method b.method) (bytes_eq a.scheme b.scheme) (bytes_eq a.authority b.authority) (bytes_eq a.version b.version) (same_path (map pattern_view c.args.patterns.now) 0 a.segments b.segments) rest (sym c.is_same_text.ensures ∙ e0) (sym c.is_same_text-2.ensures ∙ e1) (sym c.is_same_text-3.ensures ∙ e2) (sym c.is_same_text-4.ensures ∙ e3)

pub returns-then-not-is_same_path : goal.returns-then-not-is_same_path
returns-then-not-is_same_path c =
    let a = request_line c.args.before.now in
    let b = request_line c.args.after.now in
    let e0 : c.is_same_text.result ≡ true = search rules in
    let e1 : c.is_same_text-2.result ≡ true = search rules in
    let e2 : c.is_same_text-3.result ≡ true = search rules in
    let e3 : c.is_same_text-4.result ≡ true = search rules in
    let e4 : c.is_same_path.result ≡ false = search rules in
    λ rest. begins_path (bytes_eq a.method b.method) (bytes_eq a.scheme b.scheme) (bytes_eq a.authority b.authority) (bytes_eq a.version b.version) (same_path (map pattern_view c.args.patterns.now) 0 a.segments b.segments) rest (sym c.is_same_text.ensures ∙ e0) (sym c.is_same_text-2.ensures ∙ e1) (sym c.is_same_text-3.ensures ∙ e2) (sym c.is_same_text-4.ensures ∙ e3) (sym c.is_same_path.ensures ∙ e4)
