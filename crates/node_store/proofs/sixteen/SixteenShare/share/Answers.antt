-- Each part is a copy of that at its place, from the last one to the first.
use Rattle.std.proofs.Common.{rules, ◌≡◌, length, [], get_or, drop, sym, ap, arith}
use Rattle.std.proofs.lemmas.List.{drop_all}
use Rattle.node_store.proofs.PartLaws.{from_place}
use Rattle.node_store.proofs.sixteen.SixteenShare.share.Goals as goal

pub returns : goal.returns
returns g c =
    let all = c.args.self.now.parts in
    let long : length all ≡ 16 = search rules in
    let none : [] ≡ drop 16 all = sym (drop_all 16 all (omega (arith, long))) in
    let same_15 : c.in_ok-share-16.field-0 ≡ get_or all 15 c.in_ok-share-16.field-0 = search rules in
    let from_15 = from_place all 15 _ _ (omega (arith, long)) same_15 none in
    let same_14 : c.in_ok-share-15.field-0 ≡ get_or all 14 c.in_ok-share-15.field-0 = search rules in
    let from_14 = from_place all 14 _ _ (omega (arith, long)) same_14 from_15 in
    let same_13 : c.in_ok-share-14.field-0 ≡ get_or all 13 c.in_ok-share-14.field-0 = search rules in
    let from_13 = from_place all 13 _ _ (omega (arith, long)) same_13 from_14 in
    let same_12 : c.in_ok-share-13.field-0 ≡ get_or all 12 c.in_ok-share-13.field-0 = search rules in
    let from_12 = from_place all 12 _ _ (omega (arith, long)) same_12 from_13 in
    let same_11 : c.in_ok-share-12.field-0 ≡ get_or all 11 c.in_ok-share-12.field-0 = search rules in
    let from_11 = from_place all 11 _ _ (omega (arith, long)) same_11 from_12 in
    let same_10 : c.in_ok-share-11.field-0 ≡ get_or all 10 c.in_ok-share-11.field-0 = search rules in
    let from_10 = from_place all 10 _ _ (omega (arith, long)) same_10 from_11 in
    let same_9 : c.in_ok-share-10.field-0 ≡ get_or all 9 c.in_ok-share-10.field-0 = search rules in
    let from_9 = from_place all 9 _ _ (omega (arith, long)) same_9 from_10 in
    let same_8 : c.in_ok-share-9.field-0 ≡ get_or all 8 c.in_ok-share-9.field-0 = search rules in
    let from_8 = from_place all 8 _ _ (omega (arith, long)) same_8 from_9 in
    let same_7 : c.in_ok-share-8.field-0 ≡ get_or all 7 c.in_ok-share-8.field-0 = search rules in
    let from_7 = from_place all 7 _ _ (omega (arith, long)) same_7 from_8 in
    let same_6 : c.in_ok-share-7.field-0 ≡ get_or all 6 c.in_ok-share-7.field-0 = search rules in
    let from_6 = from_place all 6 _ _ (omega (arith, long)) same_6 from_7 in
    let same_5 : c.in_ok-share-6.field-0 ≡ get_or all 5 c.in_ok-share-6.field-0 = search rules in
    let from_5 = from_place all 5 _ _ (omega (arith, long)) same_5 from_6 in
    let same_4 : c.in_ok-share-5.field-0 ≡ get_or all 4 c.in_ok-share-5.field-0 = search rules in
    let from_4 = from_place all 4 _ _ (omega (arith, long)) same_4 from_5 in
    let same_3 : c.in_ok-share-4.field-0 ≡ get_or all 3 c.in_ok-share-4.field-0 = search rules in
    let from_3 = from_place all 3 _ _ (omega (arith, long)) same_3 from_4 in
    let same_2 : c.in_ok-share-3.field-0 ≡ get_or all 2 c.in_ok-share-3.field-0 = search rules in
    let from_2 = from_place all 2 _ _ (omega (arith, long)) same_2 from_3 in
    let same_1 : c.in_ok-share-2.field-0 ≡ get_or all 1 c.in_ok-share-2.field-0 = search rules in
    let from_1 = from_place all 1 _ _ (omega (arith, long)) same_1 from_2 in
    let same_0 : c.in_ok-share.field-0 ≡ get_or all 0 c.in_ok-share.field-0 = search rules in
    let from_0 = from_place all 0 _ _ (omega (arith, long)) same_0 from_1 in
    ap (λ parts. record { parts = parts }) from_0
