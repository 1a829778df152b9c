-- The lines of a load are short, and have no byte that ends a line.
use Rattle.std.proofs.Common.{◌≡◌, ◌≢◌, ℕ, zero, suc, ◌+◌, ◌*◌, ◌/◌, ◌%◌, ◌<◌, ◌≤◌, ◌==◌, ◌&&◌, nat_lt, not, cond, Bool}
use Rattle.std.proofs.Common.{true, false, List, [], ◌∷◌, ◌++◌, length, length-append, codes, inl, inr, refl, sym, ◌∙◌}
use Rattle.std.proofs.Common.{ap, subst, arith, true≢false}
use Rattle.std.specs.Prelude.{decimal}
use Rattle.std.specs.List.{AllByRecursion, list_all}
use Rattle.std.specs.Char.{digit_value}
use Rattle.std.specs.Str.Parse.{AllDigits}
use Rattle.std.proofs.lemmas.Bool.{and_parts}
use Rattle.std.proofs.lemmas.Bool.Decides.{eqb_tells}
use Rattle.std.proofs.lemmas.Fmt.{decimal_is_IsNumeral, length-decimal-le}
use Rattle.std.proofs.Math.Nat.{mod-le}
use Rattle.load_script.specs.declared.lines.TheConstants.{MOST_COMMANDS}
use Rattle.list_laws.proofs.Lists.{all_append}
use Rattle.load_script.specs.Draws.{drawn, row_of, extent_of, seconds_on, second_at}
use Rattle.load_script.specs.Jobspecs.{core_request, memory_request, slot_request, node_request, task_text, jobspec}
use Rattle.load_script.specs.Jobspecs.{core_and_memory, nodes_jobspec, slots_jobspec, memory_jobspec}
use Rattle.load_script.specs.Lines.{duration_of, command_text, load_line}

-- no line feed and no carriage return
abbrev pub Plain : ℕ → Type 0
Plain b = (b ≢ 10) × (b ≢ 13)

-- plain bytes, and at most so many
pub record Fine (most : ℕ) (text : List ℕ) : Type 0 where
  pub plain : AllByRecursion Plain text
  pub short : length text ≤ most

-- ---- texts

abbrev is_plain : ℕ → Bool
is_plain b = not (b == 10) && not (b == 13)

other : (b n : ℕ) → not (b == n) ≡ true → b ≢ n
other b n h e = elim (eqb_tells b n) [
  | inl same ↦ true≢false (sym h ∙ ap not same.0)
  | inr differ ↦ differ.1 e
]

plain_by : (text : List ℕ) → list_all is_plain text ≡ true → AllByRecursion Plain text
plain_by [] h = tt
plain_by (b ∷ text) h =
    let both = and_parts (is_plain b) (list_all is_plain text) h in
    let own = and_parts (not (b == 10)) (not (b == 13)) both.0 in
    ((other b 10 own.0, other b 13 own.1), plain_by text both.1)

-- a text that is given whole
fine_text : (text : List ℕ) → list_all is_plain text ≡ true → Fine (length text) text
fine_text text h = record { plain = plain_by text h; short = omega arith }

fine_append : (m n : ℕ) (xs ys : List ℕ) → Fine m xs → Fine n ys → Fine (m + n) (xs ++ ys)
fine_append m n xs ys a b = record {
  plain = all_append Plain xs ys a.plain b.plain;
  short = (let is = length-append xs ys in let few = a.short in let short = b.short in omega (arith, is, few, short));
}

-- the same, with the parts' own lengths
joined : {m n : ℕ} {xs ys : List ℕ} → Fine m xs → Fine n ys → Fine (m + n) (xs ++ ys)
joined {m} {n} {xs} {ys} a b = fine_append m n xs ys a b

fine_more : (m n : ℕ) (xs : List ℕ) → m ≤ n → Fine m xs → Fine n xs
fine_more m n xs le a = record { plain = a.plain; short = (let few = a.short in omega (arith, few)) }

plain_digits : (digits : List ℕ) → AllDigits 10 digits → AllByRecursion Plain digits
plain_digits [] all = tt
plain_digits (d ∷ digits) all = (
  (
    λ is. (let low : digit_value 10 < 10 = subst (λ b. digit_value b < 10) is all.0 in omega arith),
    λ is. (let low : digit_value 13 < 10 = subst (λ b. digit_value b < 10) is all.0 in omega arith),
  ),
  plain_digits digits all.1,
)

small_enough : (n : ℕ) → n < 1000000000000 → n < 18446744073709551616
small_enough n small = omega arith

fine_decimal : (n : ℕ) → n < 1000000000000 → Fine 12 (decimal n)
fine_decimal n small = record {
  plain = plain_digits (decimal n) (decimal_is_IsNumeral n (small_enough n small)).0.1;
  short = length-decimal-le 12 n (omega arith) small (small_enough n small);
}

fine_cond : (b : Bool) (n : ℕ) (xs ys : List ℕ) → Fine n xs → Fine n ys → Fine n (cond b xs ys)
fine_cond true n xs ys a c = a
fine_cond false n xs ys a c = c

-- ---- jobspecs

fine_core : (count : ℕ) → count < 1000000000000 → Fine 100 (core_request count)
unfolding core_request
fine_core count small = fine_more _ 100 _ (omega arith)
    (fine_append _ _ _ _ (fine_text (codes "{\"type\":\"core\",\"count\":") refl)
    (fine_append _ _ _ _ (fine_decimal count small) (fine_text (codes "}") refl)))

fine_memory : (count : ℕ) → count < 1000000000000 → Fine 100 (memory_request count)
unfolding memory_request
fine_memory count small = fine_more _ 100 _ (omega arith)
    (fine_append _ _ _ _ (fine_text (codes "{\"type\":\"memory\",\"count\":") refl)
    (fine_append _ _ _ _ (fine_decimal count small) (fine_text (codes "}") refl)))

fine_slot : (count n : ℕ) (within : List ℕ) → count < 1000000000000 → Fine n within →
    Fine (100 + n) (slot_request count within)
unfolding slot_request
fine_slot count n within small inner = fine_more _ (100 + n) _ (omega arith)
    (joined (joined (joined (joined (fine_text (codes "{\"type\":\"slot\",\"count\":") refl)
    (fine_decimal count small)) (fine_text (codes ",\"label\":\"task\",\"with\":[") refl)) inner) (fine_text
    (codes "]}") refl))

fine_node : (count n : ℕ) (within : List ℕ) → count < 1000000000000 → Fine n within →
    Fine (100 + n) (node_request count within)
unfolding node_request
fine_node count n within small inner = fine_more _ (100 + n) _ (omega arith)
    (joined (joined (joined (joined (fine_text (codes "{\"type\":\"node\",\"count\":") refl)
    (fine_decimal count small)) (fine_text (codes ",\"with\":[") refl)) inner) (fine_text (codes "]}") refl))

fine_task : Fine 200 task_text
unfolding task_text
fine_task = fine_more _ 200 _ (omega arith) (fine_text task_text refl)

fine_jobspec : (n : ℕ) (resources : List ℕ) (seconds : ℕ) → seconds < 1000000000000 → Fine n resources →
    Fine (300 + n) (jobspec resources seconds)
unfolding jobspec
fine_jobspec n resources seconds small inner = fine_more _ (300 + n) _ (omega arith)
    (joined (joined (joined (joined (fine_text (codes "{\"version\":1,\"resources\":[") refl) inner) fine_task)
    (fine_decimal seconds small)) (fine_text (codes "}}}") refl))

fine_both : Fine 300 core_and_memory
unfolding core_and_memory
fine_both = fine_more _ 300 _ (omega arith)
    (joined (joined (fine_core 1 (omega arith)) (fine_text (codes ",") refl)) (fine_memory 2 (omega arith)))

fine_nodes : (nodes cores seconds : ℕ) → nodes < 1000000000000 → cores < 1000000000000 → seconds < 1000000000000 →
    Fine 700 (nodes_jobspec nodes cores seconds)
unfolding nodes_jobspec
fine_nodes nodes cores seconds a b c = fine_more _ 700 _ (omega arith)
    (fine_jobspec _ _ seconds c (fine_node nodes _ _ a (fine_slot 1 _ _ (omega arith) (fine_core cores b))))

fine_slots : (slots seconds : ℕ) → slots < 1000000000000 → seconds < 1000000000000 →
    Fine 700 (slots_jobspec slots seconds)
unfolding slots_jobspec
fine_slots slots seconds a c = fine_more _ 700 _ (omega arith) (fine_jobspec _ _ seconds c (fine_slot slots _ _ a
    (fine_core 1 (omega arith))))

fine_memories : (slots seconds : ℕ) → slots < 1000000000000 → seconds < 1000000000000 →
    Fine 700 (memory_jobspec slots seconds)
unfolding memory_jobspec
fine_memories slots seconds a c = fine_more _ 700 _ (omega arith) (fine_jobspec _ _ seconds c
    (fine_slot slots _ _ a fine_both))

-- ---- numbers

drawn_small : (commands k : ℕ) → commands ≤ MOST_COMMANDS → drawn commands k < 2147483648
drawn_small commands zero few = omega arith
drawn_small commands (suc k) few = omega arith

extent_small : (commands k : ℕ) → commands ≤ MOST_COMMANDS → extent_of commands k < 4096
extent_small commands k few = let small = drawn_small commands k few in omega (arith, small)

on_small : (row extent : ℕ) → seconds_on row extent ≤ 120
on_small row extent = by (row == 7)
  where
    by : (b : Bool) → cond b (extent % 120) 0 ≤ 120
    by true = omega arith
    by false = omega arith

second_small : (commands k : ℕ) → second_at commands k ≤ 120 * k
second_small commands zero = omega arith
second_small commands (suc k) =
    let before = second_small commands k in
    let here = on_small (row_of commands (suc k)) (extent_of commands (suc k)) in omega (arith, before, here)

-- ---- lines

fine_ask : (verb : List ℕ) (k : ℕ) (spec : List ℕ) → Fine 10 verb → k < 1000000000000 → Fine 700 spec →
    Fine 800 (verb ++ decimal k ++ codes " " ++ spec)
fine_ask verb k spec a small b = fine_more _ 800 _ (omega arith)
    (joined (joined (joined a (fine_decimal k small)) (fine_text (codes " ") refl)) b)

fine_command : (k row extent second : ℕ) → k ≤ MOST_COMMANDS → extent < 4096 → second < 1000000000000 →
    Fine 800 (command_text k row extent second)
fine_command k row extent second few small late =
    fine_cond (nat_lt row 4) 800 _ _
    (fine_ask (codes "reserve ") k _ (fine_more _ 10 _ (omega arith) (fine_text (codes "reserve ") refl)) (omega arith)
    (fine_nodes (1 + extent % 4) (1 + extent / 4 % 16) (duration_of extent) (omega arith) (omega arith) (omega arith)))
    (fine_cond (row == 4) 800 _ _
    (fine_ask (codes "allocate ") k _ (fine_more _ 10 _ (omega arith) (fine_text (codes "allocate ") refl))
    (omega arith)
    (fine_slots (1 + extent % 32) (duration_of extent) (omega arith) (omega arith)))
    (fine_cond (row == 5) 800 _ _
    (fine_ask (codes "allocate ") k _ (fine_more _ 10 _ (omega arith) (fine_text (codes "allocate ") refl))
    (omega arith)
    (fine_memories (1 + extent % 32) (duration_of extent) (omega arith) (omega arith)))
    (fine_cond (row == 6) 800 _ _
    (fine_more _ 800 _ (omega arith) (fine_append _ _ _ _ (fine_text (codes "cancel ") refl) (fine_decimal
    (1 + extent % k) (let le = mod-le extent k in omega (arith, le)))))
    (fine_more _ 800 _ (omega arith) (fine_append _ _ _ _ (fine_text (codes "advance ") refl)
    (fine_decimal second late))))))

pub fine_line : (commands k : ℕ) → commands ≤ MOST_COMMANDS → k ≤ MOST_COMMANDS → Fine 1000 (load_line commands k)
unfolding load_line
fine_line commands k few most = fine_more _ 1000 _ (omega arith)
    (fine_append _ _ _ _ (fine_text (codes "load ") refl)
    (fine_command k (row_of commands k) (extent_of commands k) (second_at commands k) most (extent_small commands k few)
    (let late = second_small commands k in omega (arith, late))))
