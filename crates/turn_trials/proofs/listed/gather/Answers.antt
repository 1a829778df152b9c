use Rattle.std.proofs.Common.{◌≡◌, [], ◌∷◌, ◌++◌, length, Some, rules, arith, ap, ◌∙◌, length-append}
use Rattle.std.proofs.lemmas.List.Elements.{All-pop}
use Rattle.turn_table.specs.Seats.{share, Rests}
use Rattle.turn_table.specs.Turns.{Belongs}
use Rattle.turn_trials.proofs.listed.gather.Goals as goal

pub loop-session-preserved : goal.loop-session-preserved
loop-session-preserved c =
    let cut : c.loop-session.sessions ≡ c.pop.new.self ++ c.in-Some.session ∷ [] = search rules in
    let both = All-pop (λ s. Belongs (λ _. 0) c.args.desk.now.turn s.seat × Rests s.seat × (share s.seat ≡ 1))
    c.loop-session.sessions c.pop.new.self (Some c.in-Some.session) cut c.loop-session.invariant.3 in
    let long = ap length cut ∙ length-append c.pop.new.self (c.in-Some.session ∷ []) in
    let before = c.loop-session.invariant.2 in
    let one = both.1.2 in
    let sum = c.join.ensures.share in
    (c.join.ensures.own.0, c.join.ensures.own.1, omega arith, both.0)
