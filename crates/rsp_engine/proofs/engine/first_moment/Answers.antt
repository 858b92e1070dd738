use Rattle.std.proofs.Common.{◌≡◌, map, unwrap_or}
use Rattle.std.proofs.lemmas.List.Elements.{All-weaker}
use Rattle.rsp_engine.specs.Inside.{asked, undated}
use Rattle.rsp_engine.specs.Watching.{IsPrompt, IsWatching}
use Rattle.rsp_engine.proofs.DueNext.{all_dated, dated_back, read_dated, sought_from}
use Rattle.rsp_engine.proofs.engine.first_moment.Goals as goal

pub set_out-requires-clause-watching : goal.set_out-requires-clause-watching
set_out-requires-clause-watching g c =
    rw c.deref_mut.ensures.value
    (All-weaker (λ live. IsPrompt c.args.to c.args.arrived.now (asked live)) (λ live. IsWatching (asked live)) (λ live is. is.watching)
    c.args.queries.now.items c.requires.prompt)

pub set_out-requires-clause-sought : goal.set_out-requires-clause-sought
set_out-requires-clause-sought g c = rw c.deref_mut.ensures.value c.requires.sought

pub first_left-requires-clause-prompt : goal.first_left-requires-clause-prompt
first_left-requires-clause-prompt g c =
    let same : map undated c.set_out.new.queries ≡ map undated c.args.queries.now.items = rw c.deref_mut.ensures.value at c.set_out.ensures.same in
    rw (c.as_slice.ensures.value, dated_back c.args.queries.now c.set_out.new.queries same)
    (all_dated c.args.queries.now.items c.set_out.new.queries same (λ live. IsPrompt c.args.to c.args.arrived.now (asked live)) c.requires.prompt)

pub first_left-requires-clause-read : goal.first_left-requires-clause-read
first_left-requires-clause-read g c =
    let same : map undated c.set_out.new.queries ≡ map undated c.args.queries.now.items = rw c.deref_mut.ensures.value at c.set_out.ensures.same in
    rw (c.as_slice.ensures.value, dated_back c.args.queries.now c.set_out.new.queries same)
    (read_dated c.args.queries.now.items c.set_out.new.queries same c.args.readers.now c.requires.read)

pub first_left-requires-clause-sought : goal.first_left-requires-clause-sought
first_left-requires-clause-sought g c =
    let same : map undated c.set_out.new.queries ≡ map undated c.args.queries.now.items = rw c.deref_mut.ensures.value at c.set_out.ensures.same in
    rw (c.as_slice.ensures.value, dated_back c.args.queries.now c.set_out.new.queries same, c.unwrap_or.ensures)
    (sought_from (unwrap_or c.args.next c.args.to) c.args.to c.set_out.new.queries c.requires.later c.set_out.ensures.sought)

pub returns-clause-same : goal.returns-clause-same
returns-clause-same g c =
    let same : map undated c.set_out.new.queries ≡ map undated c.args.queries.now.items = rw c.deref_mut.ensures.value at c.set_out.ensures.same in
    rw (dated_back c.args.queries.now c.set_out.new.queries same) same

pub returns-clause-first : goal.returns-clause-first
returns-clause-first g c = rw (c.as_slice.ensures.value, c.unwrap_or.ensures) at c.first_left.ensures.first

pub returns-clause-sought : goal.returns-clause-sought
returns-clause-sought g c = rw c.as_slice.ensures.value at c.first_left.ensures.sought
