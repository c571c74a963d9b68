use Rattle.std.proofs.Common.{◌≡◌, ◌+◌, ◌<◌, ◌≤◌, ℕ, List, length, take, subst, arith}
use Rattle.std.proofs.lemmas.List.{length-take, length-take-le}
use Rattle.std.specs.Io.KnownBytes.{Consumes}
use Rattle.script_loop.specs.Limits.{script_limit}
use Rattle.script_loop.specs.declared.ending.Ending.TheVariants.{ReadFault}
use Rattle.script_loop.proofs.Complete.{complete_told}
use Rattle.script_loop.proofs.Endings.{few, nothing_told}
use Rattle.script_loop.proofs.Told.{read_fault_told, finish_told, past_told, feed_told, reaches_on, takes, one_byte}
use Rattle.script_loop.proofs.script.run.Goals as goal

pub returns-in_default-clause-script : goal.returns-in_default-clause-script
returns-in_default-clause-script g c = nothing_told g.M.Machine.gives g.M.Machine.gives_up (g.S.Source.left c.args.source.now) _ _

pub returns-in_default-read_chunk-clause-script : goal.returns-in_default-read_chunk-clause-script
returns-in_default-read_chunk-clause-script g c =
    read_fault_told g.M.Machine.gives g.M.Machine.gives_up _ _ _ _ _ _ _ _ _ _ c.loop-count.invariant.reaches c.in_default-read_chunk.ensures.bytes c.loop-count.invariant.within

pub finish-requires-clause-number : goal.finish-requires-clause-number
finish-requires-clause-number g c = omega (arith, few g.M.Machine.gives _ _ _ _ _ _ _ _ _ c.loop-count.invariant.reaches, c.loop-count.invariant.within)

pub past_limit-requires : goal.past_limit-requires
past_limit-requires g c = omega (arith, few g.M.Machine.gives _ _ _ _ _ _ _ _ _ c.loop-count.invariant.reaches, c.loop-count.invariant.within)

pub returns-then-count-eq0-clause-script : goal.returns-then-count-eq0-clause-script
returns-then-count-eq0-clause-script g c =
    let some : 0 < length c.read_chunk.new.buffer.items = omega (arith, c.read_chunk.new.buffer.ok.0, c.loop-count.invariant.room, c.read_chunk.ensures.len) in
    finish_told g.M.Machine.gives g.M.Machine.gives_up _ _ _ _ _ _ _ _ _ _ _ _ _ c.in-Ok-read_chunk.count c.read_chunk.new.buffer.items c.loop-count.invariant.reaches c.in-Ok-read_chunk.ensures.bytes c.if-count-eq0.true some c.loop-count.invariant.within c.finish.ensures.ending

pub returns-then-room-eq0-clause-script : goal.returns-then-room-eq0-clause-script
returns-then-room-eq0-clause-script g c =
    let full : c.loop-count.taken ≡ script_limit = omega (arith, c.loop-count.invariant.within, c.if-room-eq0.true) in
    let some : 0 < length c.read_chunk.new.buffer.items = omega (arith, c.read_chunk.new.buffer.ok.0, c.loop-count.invariant.room, c.read_chunk.ensures.len) in
    let one = one_byte c.read_chunk.new.buffer.items c.in-Ok-read_chunk.count c.index.result.now (omega (arith, c.in-Ok-read_chunk.ensures.bound, c.max.ensures, c.if-room-eq0.true)) c.if-count-eq0.false some c.index.ensures in
    past_told g.M.Machine.gives g.M.Machine.gives_up _ _ _ _ _ _ _ c.index.result.now _ _ _ _ c.loop-count.invariant.reaches full (subst (λ (bytes : List ℕ). Consumes (g.S.Source.left c.loop-count.source) (g.S.Source.left c.read_chunk.new.source) bytes) one c.in-Ok-read_chunk.ensures.bytes.0) c.past_limit.ensures

pub returns-then-room-eq0-clause-taken : goal.returns-then-room-eq0-clause-taken
returns-then-room-eq0-clause-taken g c =
    let most : length (take c.in-Ok-read_chunk.count c.read_chunk.new.buffer.items) ≤ 1 = omega (arith, length-take {A = ℕ}, c.in-Ok-read_chunk.ensures.bound, c.max.ensures, c.if-room-eq0.true) in
    takes g.M.Machine.gives _ _ _ _ _ _ _ _ _ _ _ _ c.loop-count.invariant.reaches c.in-Ok-read_chunk.ensures.bytes.0 (omega (arith, most, c.loop-count.invariant.within))

pub feed-requires-clause-number : goal.feed-requires-clause-number
feed-requires-clause-number g c =
    omega (arith, few g.M.Machine.gives _ _ _ _ _ _ _ _ _ c.loop-count.invariant.reaches, c.loop-count.invariant.within, length-take {A = ℕ}, c.in-Ok-read_chunk.ensures.bound, c.max.ensures)

pub returns-in-Err-clause-script : goal.returns-in-Err-clause-script
returns-in-Err-clause-script g c =
    let bytes = c.deref.ensures.value in
    let size : c.loop-count.taken + length (take c.in-Ok-read_chunk.count c.read_chunk.new.buffer.items) ≤ script_limit =
    omega (arith, c.loop-count.invariant.within, length-take {A = ℕ}, c.in-Ok-read_chunk.ensures.bound, c.max.ensures, c.if-room-eq0.false) in
    feed_told g.M.Machine.gives g.M.Machine.gives_up _ _ _ _ _ _ _ _ _ (take c.in-Ok-read_chunk.count c.read_chunk.new.buffer.items) _ _ _ _ c.loop-count.invariant.reaches c.in-Ok-read_chunk.ensures.bytes.0 size (rw bytes at c.in-Err.ensures.err)

pub returns-in-Err-clause-taken : goal.returns-in-Err-clause-taken
returns-in-Err-clause-taken g c =
    takes g.M.Machine.gives _ _ _ _ _ _ _ _ _ _ _ _ c.loop-count.invariant.reaches c.in-Ok-read_chunk.ensures.bytes.0 (omega (arith, c.loop-count.invariant.within, length-take {A = ℕ}, c.in-Ok-read_chunk.ensures.bound, c.max.ensures, c.if-room-eq0.false))

pub loop-count-preserved : goal.loop-count-preserved
loop-count-preserved g c =
    let bytes = c.deref.ensures.value in
    let size : length (take c.in-Ok-read_chunk.count c.read_chunk.new.buffer.items) ≡ c.in-Ok-read_chunk.count =
    length-take-le c.in-Ok-read_chunk.count c.read_chunk.new.buffer.items (omega (arith, c.in-Ok-read_chunk.ensures.bound, c.read_chunk.new.buffer.ok.0)) in
    record {
      reaches = reaches_on g.M.Machine.gives _ _ _ _ _ _ _ _ _ _ _ (take c.in-Ok-read_chunk.count c.read_chunk.new.buffer.items) _ _ _ _ c.loop-count.invariant.reaches c.in-Ok-read_chunk.ensures.bytes.0 (omega (arith, size)) (rw bytes at c.in_default-feed.ensures.ok);
      within = omega (arith, c.loop-count.invariant.within, c.in-Ok-read_chunk.ensures.bound, c.max.ensures, c.if-room-eq0.false);
      room = omega (arith, c.loop-count.invariant.room, c.read_chunk.ensures.len);
      ready = c.in_default-feed.ensures.ready;
      kept = g.met.M.Machine.goes_on _ _ _ c.loop-count.invariant.kept c.in_default-feed.ensures.later;
      reading = omega (arith, c.loop-count.invariant.reading, c.in-Ok-read_chunk.ensures.cause.later);
      writing = omega (arith, c.loop-count.invariant.writing, c.in_default-feed.ensures.cause.later);
    }

pub returns-in_default-read_chunk-clause-complete : goal.returns-in_default-read_chunk-clause-complete
returns-in_default-read_chunk-clause-complete g c =
    complete_told g.M.Machine.gives g.M.Machine.gives_up (g.S.Source.left c.args.source.now) (g.S.Source.left c.read_chunk.new.source) c.args.machine.now c.loop-count.machine (g.O.Sink.written c.args.sink.now) (g.O.Sink.written c.loop-count.sink) ReadFault
    (read_fault_told g.M.Machine.gives g.M.Machine.gives_up _ _ _ _ _ _ _ _ _ _ c.loop-count.invariant.reaches c.in_default-read_chunk.ensures.bytes c.loop-count.invariant.within)

pub returns-then-count-eq0-clause-complete : goal.returns-then-count-eq0-clause-complete
returns-then-count-eq0-clause-complete g c =
    let some : 0 < length c.read_chunk.new.buffer.items = omega (arith, c.read_chunk.new.buffer.ok.0, c.loop-count.invariant.room, c.read_chunk.ensures.len) in
    complete_told g.M.Machine.gives g.M.Machine.gives_up (g.S.Source.left c.args.source.now) (g.S.Source.left c.read_chunk.new.source) c.args.machine.now c.finish.new.machine (g.O.Sink.written c.args.sink.now) (g.O.Sink.written c.finish.new.sink) c.finish.result
    (finish_told g.M.Machine.gives g.M.Machine.gives_up _ _ _ _ _ _ _ _ _ _ _ _ _ c.in-Ok-read_chunk.count c.read_chunk.new.buffer.items c.loop-count.invariant.reaches c.in-Ok-read_chunk.ensures.bytes c.if-count-eq0.true some c.loop-count.invariant.within c.finish.ensures.ending)

pub returns-then-room-eq0-clause-complete : goal.returns-then-room-eq0-clause-complete
returns-then-room-eq0-clause-complete g c =
    let full : c.loop-count.taken ≡ script_limit = omega (arith, c.loop-count.invariant.within, c.if-room-eq0.true) in
    let some : 0 < length c.read_chunk.new.buffer.items = omega (arith, c.read_chunk.new.buffer.ok.0, c.loop-count.invariant.room, c.read_chunk.ensures.len) in
    let one = one_byte c.read_chunk.new.buffer.items c.in-Ok-read_chunk.count c.index.result.now (omega (arith, c.in-Ok-read_chunk.ensures.bound, c.max.ensures, c.if-room-eq0.true)) c.if-count-eq0.false some c.index.ensures in
    complete_told g.M.Machine.gives g.M.Machine.gives_up (g.S.Source.left c.args.source.now) (g.S.Source.left c.read_chunk.new.source) c.args.machine.now c.loop-count.machine (g.O.Sink.written c.args.sink.now) (g.O.Sink.written c.loop-count.sink) c.past_limit.result
    (past_told g.M.Machine.gives g.M.Machine.gives_up _ _ _ _ _ _ _ c.index.result.now _ _ _ _ c.loop-count.invariant.reaches full (subst (λ (bytes : List ℕ). Consumes (g.S.Source.left c.loop-count.source) (g.S.Source.left c.read_chunk.new.source) bytes) one c.in-Ok-read_chunk.ensures.bytes.0) c.past_limit.ensures)

pub returns-in-Err-clause-complete : goal.returns-in-Err-clause-complete
returns-in-Err-clause-complete g c =
    let bytes = c.deref.ensures.value in
    let size : c.loop-count.taken + length (take c.in-Ok-read_chunk.count c.read_chunk.new.buffer.items) ≤ script_limit =
    omega (arith, c.loop-count.invariant.within, length-take {A = ℕ}, c.in-Ok-read_chunk.ensures.bound, c.max.ensures, c.if-room-eq0.false) in
    complete_told g.M.Machine.gives g.M.Machine.gives_up (g.S.Source.left c.args.source.now) (g.S.Source.left c.read_chunk.new.source) c.args.machine.now c.feed.new.machine (g.O.Sink.written c.args.sink.now) (g.O.Sink.written c.feed.new.sink) c.in-Err.ending
    (feed_told g.M.Machine.gives g.M.Machine.gives_up _ _ _ _ _ _ _ _ _ (take c.in-Ok-read_chunk.count c.read_chunk.new.buffer.items) _ _ _ _ c.loop-count.invariant.reaches c.in-Ok-read_chunk.ensures.bytes.0 size (rw bytes at c.in-Err.ensures.err))
