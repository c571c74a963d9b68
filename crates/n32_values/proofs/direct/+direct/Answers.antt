use Rattle.std.proofs.Common.{◌≡◌, ◌-◌, ◌<◌, ◌∷◌, length, Some, None, option_map, sym, ap, ◌∙◌, arith}
use Rattle.json.specs.Token.{Token}
use Rattle.json.specs.Json.{parse_map, after_end_array, read_key, items, members, value}
use Rattle.json.specs.Reads.{token_of}
use Rattle.json.proofs.Grammar.{value_is, value-begin_array, value-begin_object, read_key-shorter}
use Rattle.serde_json.specs.Read.{converted}
use Rattle.spec_documents.specs.Tree as tree
use Rattle.spec_documents.specs.Tree.{put_member}
use Rattle.n32_values.specs.Direct.{tree_json, trees_json, members_json}
use Rattle.n32_values.specs.View.{tree_of}
use Rattle.n32_values.proofs.StraightReading.{converted-array, converted-object, item_read, items_over, member_read, members_over, trees_before, trees_before-no_items, one_more_tree, none_before}
use Rattle.n32_values.proofs.direct.+direct.Goals as goal

pub read_items-items-init : goal.read_items-items-init
read_items-items-init t c =
    let all = converted trees_json (items (value c.args.depth) (length c.args.reader.now) c.args.reader.now) in
    (length c.args.reader.now, omega arith, none_before all ∙ ap (λ ts. parse_map (trees_before ts) all) (sym c.new-list.ensures), omega arith)

pub read_items-items-preserved : goal.read_items-items-preserved
read_items-items-preserved t c =
    let p = value c.args.depth in
    let l = c.items in
    let n = l.invariant.0 in
    let going : (after_end_array l.reader ≡ None) × (c.take_end_array.new.self ≡ l.reader) = grind arith in
    let done = c.in_ok-item.ensures in
    let v = tree_of c.in_ok-item.item in
    let r = c.read_node.new.reader in
    let less : length r < length l.reader = rw (← going.1) done.shorter in
    let turn = item_read p n l.reader r v (omega (arith, l.invariant.1)) going.0 (rw (← going.1) done.ok) in (
      n - 1,
      omega (arith, l.invariant.1),
      l.invariant.2 ∙ ap (parse_map (trees_before l.list)) turn ∙ one_more_tree l.list v _
          ∙ ap (λ ts. parse_map (trees_before ts) (converted trees_json (items p (n - 1) r))) (sym c.in_ok-push.ensures.ok),
      omega (arith, l.invariant.3),
    )

pub read_items-returns-clause-ok : goal.read_items-returns-clause-ok
read_items-returns-clause-ok t c =
    let p = value c.args.depth in
    let l = c.items in
    let n = l.invariant.0 in
    let r = c.take_end_array.new.self in
    l.invariant.2 ∙ ap (parse_map (trees_before l.list)) (items_over p n l.reader r l.invariant.1 (grind arith)) ∙ ap (λ ts. Some (ts, r)) (trees_before-no_items l.list)

pub read_members-members-init : goal.read_members-members-init
read_members-members-init t c =
    let all = members (value c.args.depth) (length c.args.reader.now) c.args.reader.now in
    (length c.args.reader.now, omega arith, ap (λ found. converted (λ ms. members_json ms found) all) (sym c.new-map.ensures), omega arith)

pub read_members-members-preserved : goal.read_members-members-preserved
read_members-members-preserved t c =
    let p = value c.args.depth in
    let l = c.members in
    let n = l.invariant.0 in
    let k = c.in-Some.name.now in
    let s = c.next_key.new.self in
    let named : read_key l.reader ≡ Some (Some k, s) = grind arith in
    let done = c.in_ok-member.ensures in
    let v = tree_of c.in_ok-member.member in
    let r = c.read_node.new.reader in
    let less = read_key-shorter l.reader (Some k) s named in
    let lesser = done.shorter in
    let put : c.put.new.map ≡ put_member k v l.map = c.in_ok-put.ensures ∙ ap (λ name. put_member name v l.map) c.in_ok-key.ensures in (
      n - 1,
      omega (arith, l.invariant.1),
      l.invariant.2 ∙ member_read p l.map n k l.reader s r v (omega (arith, l.invariant.1)) named done.ok
          ∙ ap (λ found. converted (λ ms. members_json ms found) (members p (n - 1) r)) (sym put),
      omega (arith, l.invariant.3),
    )

pub read_members-returns-clause-ok : goal.read_members-returns-clause-ok
read_members-returns-clause-ok t c =
    let p = value c.args.depth in
    let l = c.members in
    let n = l.invariant.0 in
    l.invariant.2 ∙ members_over p l.map n l.reader c.next_key.new.self l.invariant.1 (grind arith)

pub read_node-returns-in_ok-from_text-in-String-clause-ok : goal.read_node-returns-in_ok-from_text-in-String-clause-ok
read_node-returns-in_ok-from_text-in-String-clause-ok t c =
    let first : c.args.reader.now ≡ token_of c.in_ok-token.token ∷ c.next.new.self = grind arith in
    let is : c.args.reader.now ≡ Token.string c.in-String.text.now ∷ c.next.new.self = grind (arith, first) in
    ap (converted tree_json) (ap (value c.args.depth) is ∙ value_is c.args.depth _) ∙ ap (λ s. Some (tree.words s, c.next.new.self)) (sym c.in_ok-from_text-in-String.ensures)

pub read_node-returns-in-Bool-clause-ok : goal.read_node-returns-in-Bool-clause-ok
read_node-returns-in-Bool-clause-ok t c =
    let first : c.args.reader.now ≡ token_of c.in_ok-token.token ∷ c.next.new.self = grind arith in
    let is : c.args.reader.now ≡ Token.boolean c.in-Bool.b ∷ c.next.new.self = grind (arith, first) in
    ap (converted tree_json) (ap (value c.args.depth) is ∙ value_is c.args.depth _)

pub read_node-returns-in-Null-clause-ok : goal.read_node-returns-in-Null-clause-ok
read_node-returns-in-Null-clause-ok t c =
    let first : c.args.reader.now ≡ token_of c.in_ok-token.token ∷ c.next.new.self = grind arith in
    let is : c.args.reader.now ≡ Token.null ∷ c.next.new.self = grind (arith, first) in
    ap (converted tree_json) (ap (value c.args.depth) is ∙ value_is c.args.depth _)

pub read_node-returns-in_ok-number_node-in-Number-clause-ok : goal.read_node-returns-in_ok-number_node-in-Number-clause-ok
read_node-returns-in_ok-number_node-in-Number-clause-ok t c =
    let first : c.args.reader.now ≡ token_of c.in_ok-token.token ∷ c.next.new.self = grind arith in
    let is : c.args.reader.now ≡ Token.number c.in-Number.text.now ∷ c.next.new.self = grind (arith, first) in
    ap (converted tree_json) (ap (value c.args.depth) is ∙ value_is c.args.depth _) ∙ ap (option_map (λ n. (n, c.next.new.self))) c.in_ok-number_node-in-Number.ensures

pub read_node-returns-in_ok-read_items-in-BeginArray-clause-ok : goal.read_node-returns-in_ok-read_items-in-BeginArray-clause-ok
read_node-returns-in_ok-read_items-in-BeginArray-clause-ok t c =
    let first : c.args.reader.now ≡ token_of c.in_ok-token.token ∷ c.next.new.self = grind arith in
    let opened = ap (converted tree_json) (ap (value c.args.depth) (first ∙ ap (λ k. token_of k ∷ c.next.new.self) c.in-BeginArray.is) ∙ value-begin_array c.args.depth c.next.new.self (omega arith)) ∙ converted-array (items (value (c.args.depth - 1)) (length c.next.new.self) c.next.new.self) in
    opened ∙ ap (parse_map tree.items) c.in_ok-read_items-in-BeginArray.ensures.ok

pub read_node-returns-in_ok-read_members-in-BeginObject-clause-ok : goal.read_node-returns-in_ok-read_members-in-BeginObject-clause-ok
read_node-returns-in_ok-read_members-in-BeginObject-clause-ok t c =
    let first : c.args.reader.now ≡ token_of c.in_ok-token.token ∷ c.next.new.self = grind arith in
    let opened = ap (converted tree_json) (ap (value c.args.depth) (first ∙ ap (λ k. token_of k ∷ c.next.new.self) c.in-BeginObject.is) ∙ value-begin_object c.args.depth c.next.new.self (omega arith)) ∙ converted-object (members (value (c.args.depth - 1)) (length c.next.new.self) c.next.new.self) in
    opened ∙ ap (parse_map tree.members) c.in_ok-read_members-in-BeginObject.ensures.ok
