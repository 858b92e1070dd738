use Rattle.std.proofs.Common.{◌^◌, ◌≤◌, arith}
use Rattle.rsp_engine.proofs.InOrder.{last_put}
use Rattle.rsp_engine.proofs.TimesKept.{kept_all, kept_sorted, put_all, told_kept, told_more}
use Rattle.rsp_engine.proofs.arrivals.watch_window.Goals as goal

pub put_in_order-requires : goal.put_in_order-requires
put_in_order-requires c =
    kept_sorted c.args.watched.now.times c.forget_times.new.times c.forget_times.ensures.rest.0 c.forget_times.ensures.rest.1
    c.requires.watched.sorted

pub returns-in_ok-put_in_order-clause-watched : goal.returns-in_ok-put_in_order-clause-watched
returns-in_ok-put_in_order-clause-watched c =
    record {
      sorted = c.in_ok-put_in_order.ensures.sorted;
      high =
          put_all c.args.watched.now.times c.forget_times.new.times c.forget_times.ensures.rest.0 c.forget_times.ensures.rest.1
          (λ t. t ≤ 2 ^ 48) c.args.time c.put_in_order.new.times c.in_ok-put_in_order.ensures.put (omega (arith, c.requires.instant))
          c.requires.watched.high;
    }

pub returns-in_ok-put_in_order-clause-up_to : goal.returns-in_ok-put_in_order-clause-up_to
returns-in_ok-put_in_order-clause-up_to c latest low early =
    put_all c.args.watched.now.times c.forget_times.new.times c.forget_times.ensures.rest.0 c.forget_times.ensures.rest.1
    (λ t. t ≤ latest) c.args.time c.put_in_order.new.times c.in_ok-put_in_order.ensures.put low early

pub returns-in_ok-put_in_order-clause-fresh : goal.returns-in_ok-put_in_order-clause-fresh
returns-in_ok-put_in_order-clause-fresh c early fresh =
    last_put c.forget_times.new.times c.put_in_order.new.times c.args.time
    (kept_all c.args.watched.now.times c.forget_times.new.times c.forget_times.ensures.rest.0 c.forget_times.ensures.rest.1
    (λ t. t ≤ c.args.time) early)
    c.in_ok-put_in_order.ensures.put c.in_ok-put_in_order.ensures.sorted

pub returns-in_ok-put_in_order-clause-told : goal.returns-in_ok-put_in_order-clause-told
returns-in_ok-put_in_order-clause-told c t late =
    told_more c.args.watched.now t c.args.time c.forget_times.new.times (c.forget_times.ensures.seen t late)
    c.args.over c.put_in_order.new.times c.if-over.true c.in_ok-put_in_order.ensures.put

pub returns-else-over-clause-watched : goal.returns-else-over-clause-watched
returns-else-over-clause-watched c =
    record {
      sorted =
          kept_sorted c.args.watched.now.times c.forget_times.new.times c.forget_times.ensures.rest.0 c.forget_times.ensures.rest.1
          c.requires.watched.sorted;
      high =
          kept_all c.args.watched.now.times c.forget_times.new.times c.forget_times.ensures.rest.0 c.forget_times.ensures.rest.1
          (λ t. t ≤ 2 ^ 48) c.requires.watched.high;
    }

pub returns-else-over-clause-up_to : goal.returns-else-over-clause-up_to
returns-else-over-clause-up_to c latest low early =
    kept_all c.args.watched.now.times c.forget_times.new.times c.forget_times.ensures.rest.0 c.forget_times.ensures.rest.1
    (λ t. t ≤ latest) early

pub returns-else-over-clause-told : goal.returns-else-over-clause-told
returns-else-over-clause-told c t late =
    told_kept c.args.watched.now t c.args.time c.forget_times.new.times (c.forget_times.ensures.seen t late)
    c.args.over c.if-over.false
