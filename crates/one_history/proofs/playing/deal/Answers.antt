use Rattle.std.proofs.Common.{◌≡◌, ◌∷◌, ◌++◌, [], length, refl, sym, ap, ◌∙◌, append_assoc, subst, false, List, rules}
use Rattle.one_history.specs.Dealt.{Sitting}
use Rattle.one_history.proofs.Sessions.{Dealing, deals_one}
use Rattle.one_history.proofs.playing.deal.Goals as goal

pub loop-own-preserved : goal.loop-own-preserved
loop-own-preserved c =
    let split : c.args.lines ≡ c.loop-own.yielded ++ c.in-Some.own ∷ c.next.new.self.rest.items
    = c.loop-own.invariant.2 ∙ ap (λ r. c.loop-own.yielded ++ r) c.in-Some.ensures.steps.0 in
    let s : Sitting
    = record {
      client = c.len.result;
      lines = c.in-Some.own;
      seat = c.in_ok-split.field-0;
      done = 0;
      stopped = false;
    } in
    let client : c.len.result ≡ length c.loop-own.sessions.items = search rules in
    let one = deals_one c.args.book.now c.args.seat.now c.loop-own.seat c.split.new.seat c.loop-own.yielded
    c.loop-own.sessions.items c.in-Some.own s c.loop-own.invariant.3
    (record {
      client-is = client;
      lines-are = refl;
      done = refl;
      going = refl;
      own = (c.in_ok-split.ensures.new, c.in_ok-split.ensures.share.1);
      empty = c.in_ok-split.ensures.mine.1;
    }) c.split.ensures.own c.split.ensures.mine.0 c.split.ensures.share.0 in (
      tt,
      tt,
      split ∙ sym (append_assoc c.loop-own.yielded (c.in-Some.own ∷ []) c.next.new.self.rest.items),
      subst (λ (l : List Sitting).
          Dealing c.args.book.now c.args.seat.now c.split.new.seat (c.loop-own.yielded ++ c.in-Some.own ∷ []) l)
          (sym c.in_ok-push.ensures.items) one,
    )
