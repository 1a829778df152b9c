-- The column LINE of a history's text.
use Rattle.std.proofs.Common.{◌≡◌, ℕ, suc, ◌+◌, ◌^◌, ◌<◌, ◌≤◌, ◌==◌, not, cond, List, [], ◌∷◌, ◌++◌, map, length, take}
use Rattle.std.proofs.Common.{drop, unwrap_or, decimal, codes, refl, sym, ◌∙◌, ap, subst, arith, append_assoc}
use Rattle.std.specs.List.{AllByRecursion, position_or_len}
use Rattle.std.proofs.lemmas.Bool.{ne_eqb}
use Rattle.std.proofs.lemmas.List.Sums.{sum_by-append}
use Rattle.std.specs.Str.Parse.{AllDigits}
use Rattle.std.specs.Char.{digit_value}
use Rattle.std.proofs.lemmas.Fmt.{decimal_is_IsNumeral, decimal_nonempty}
use Rattle.text_forms.specs.Cuts.{Lacks}
use Rattle.text_forms.specs.Numbers.{number_in}
use Rattle.text_forms.proofs.Decimals.{is_of}
use Rattle.flux_defs.specs.declared.journal.Entry.{Entry}
use Rattle.resource_graph.specs.NamedGraph.{NamedGraph}
use Rattle.fluxion_lines.specs.Texts.{reply_text, name_of, history_text_from, history_text}
use Rattle.fluxion_lines.specs.Lines.{lines_of}
use Rattle.fluxion_lines.specs.Words.{skipped, first_word, after_word}
use Rattle.fluxion_lines.specs.Columns.{line_named, line_column, line_feeds}
use Rattle.fluxion_lines.proofs.LineLaws.{ended}

-- ---- words of a line

-- a word of at least one byte, without a space, ends at a space
pub word_ends : (w more : List ℕ) → Lacks 32 w → position_or_len (λ b. b == 32) (w ++ 32 ∷ more) ≡ length w
word_ends [] more none = refl
word_ends (b ∷ w) more none = ap (λ t. cond (not t) (1 + position_or_len (λ x. x == 32) (w ++ 32 ∷ more)) 0)
    (ne_eqb b 32 none.0) ∙ (ap (λ n. 1 + n) (word_ends w more none.1) ∙ omega arith)

taken : (w more : List ℕ) → take (length w) (w ++ more) ≡ w
taken [] more = refl
taken (b ∷ w) more = ap (λ xs. b ∷ xs) (taken w more)

dropped : (w more : List ℕ) → drop (length w) (w ++ more) ≡ more
dropped [] more = refl
dropped (b ∷ w) more = dropped w more

-- nothing is skipped where a word begins
begins : (w more : List ℕ) → Lacks 32 w → 0 < length w → skipped (w ++ 32 ∷ more) ≡ w ++ 32 ∷ more
begins [] more none some = absurd (omega arith)
begins (b ∷ w) more none some = ap
    (λ t. drop (cond (not (not t)) (1 + position_or_len (λ x. not (x == 32)) (w ++ 32 ∷ more)) 0)
    (b ∷ (w ++ 32 ∷ more))) (ne_eqb b 32 none.0)

first_is : (w more : List ℕ) → Lacks 32 w → 0 < length w → first_word (w ++ 32 ∷ more) ≡ w
first_is w more none some =
    ap (λ s. take (position_or_len (λ b. b == 32) s) s) (begins w more none some)
    ∙ (ap (λ n. take n (w ++ 32 ∷ more)) (word_ends w more none) ∙ taken w (32 ∷ more))

behind_is : (w more : List ℕ) → Lacks 32 w → 0 < length w → after_word (w ++ 32 ∷ more) ≡ 32 ∷ more
behind_is w more none some =
    ap (λ s. drop (position_or_len (λ b. b == 32) s) s) (begins w more none some)
    ∙ (ap (λ n. drop n (w ++ 32 ∷ more)) (word_ends w more none) ∙ dropped w (32 ∷ more))

-- a space at the front is skipped
space_first : (more : List ℕ) → first_word (32 ∷ more) ≡ first_word more
space_first more = ap (λ s. take (position_or_len (λ b. b == 32) s) s) skip
  where
    skip : drop (1 + position_or_len (λ b. not (b == 32)) more) (32 ∷ more) ≡ skipped more
    skip = rw one_more refl
      where
        one_more : 1 + position_or_len (λ b. not (b == 32)) more ≡ suc (position_or_len (λ b. not (b == 32)) more)
        one_more = omega arith

second_is : (v w more : List ℕ) → Lacks 32 v → 0 < length v → Lacks 32 w → 0 < length w → first_word
    (after_word (v ++ 32 ∷ (w ++ 32 ∷ more))) ≡ w
second_is v w more v_none v_some none some = ap first_word (behind_is v (w ++ 32 ∷ more) v_none v_some)
    ∙ (space_first (w ++ 32 ∷ more) ∙ first_is w more none some)

-- ---- decimal numbers

no_space_in : (digits : List ℕ) → AllDigits 10 digits → Lacks 32 digits
no_space_in [] all = tt
no_space_in (d ∷ digits) all = (
  (λ is. let low : digit_value 32 < 10 = subst (λ b. digit_value b < 10) is all.0 in
      omega arith),
  no_space_in digits all.1,
)

no_space : (n : ℕ) → n < 2 ^ 64 → Lacks 32 (decimal n)
no_space n small = no_space_in (decimal n) (decimal_is_IsNumeral n small).0.1

-- ---- a line

-- an output line but for its line feed
abbrev pub before_feed : ℕ → ℕ → List ℕ → List ℕ
before_feed at line rest = decimal at ++ (32 ∷ (decimal line ++ (32 ∷ rest)))

pub named : (at line : ℕ) (rest : List ℕ) → at < 2 ^ 64 → line < 2 ^ 64 → line_named (before_feed at line rest) ≡ line
named at line rest small small_line =
    ap (λ w. unwrap_or (number_in w) 0)
    (second_is (decimal at) (decimal line) rest (no_space at small) (decimal_nonempty at small)
    (no_space line small_line) (decimal_nonempty line small_line))
    ∙ ap (λ o. unwrap_or o 0) (is_of (decimal line) line small_line refl)

-- ---- line feeds

-- one for a line feed
abbrev feed : ℕ → ℕ
feed b = cond (b == 10) 1 0

pub feeds_more : (xs ys : List ℕ) → line_feeds (xs ++ ys) ≡ line_feeds xs + line_feeds ys
feeds_more xs ys = sum_by-append feed xs ys

-- bytes without a line feed have none anywhere
pub no_feed : (xs : List ℕ) → line_feeds xs ≡ 0 → Lacks 10 xs
no_feed [] none = tt
no_feed (x ∷ xs) none =
    let whole : line_feeds (x ∷ xs) ≡ feed x + line_feeds xs = feeds_more (x ∷ []) xs ∙ omega arith in
    let rest : line_feeds xs ≡ 0 = omega arith in
    (λ is. (let one : feed x ≡ 1 = ap feed is in omega arith), no_feed xs rest)

-- ---- lines

-- the text of rows: of each its number, its line and the rest of it, and a line feed
pub record Row : Type 0 where
  pub at : ℕ
  pub line : ℕ
  pub rest : List ℕ

abbrev pub row_text : Row → List ℕ
row_text row = before_feed row.at row.line row.rest ++ 10 ∷ []

abbrev pub rows_text : List Row → List ℕ
rows_text [] = []
rows_text (row ∷ rows) = row_text row ++ rows_text rows

abbrev pub IsSmall : Row → Type 0
IsSmall row = (row.at < 2 ^ 64) × (row.line < 2 ^ 64)

-- how many line feeds rows have at least
least : (rows : List Row) → length rows ≤ line_feeds (rows_text rows)
least [] = omega arith
least (row ∷ rows) =
    let whole = feeds_more (row_text row) (rows_text rows) in
    let own : line_feeds (row_text row) ≡ line_feeds (before_feed row.at row.line row.rest) + 1 = feeds_more
    (before_feed row.at row.line row.rest) (10 ∷ []) in
    let rest = least rows in omega arith

-- with one line feed a row, each names its line
pub column_is : (rows : List Row) → AllByRecursion IsSmall rows → line_feeds (rows_text rows) ≡ length rows →
    line_column (rows_text rows) ≡ map (λ row. row.line) rows
column_is [] small one_each = refl
column_is (row ∷ rows) small one_each =
    let head = before_feed row.at row.line row.rest in
    let whole = feeds_more (row_text row) (rows_text rows) in
    let own : line_feeds (row_text row) ≡ line_feeds head + 1 = feeds_more head (10 ∷ []) in
    let rest = least rows in
    let none : line_feeds head ≡ 0 = omega arith in
    let others : line_feeds (rows_text rows) ≡ length rows = omega arith in
    let lines = ap lines_of (append_assoc head (10 ∷ []) (rows_text rows)) ∙ ended head (rows_text rows)
    (no_feed head none) in
    let tail = column_is rows small.1 others in
    ap (map line_named) lines ∙ (λ i. named row.at row.line row.rest small.0.0 small.0.1 i ∷ tail i)

-- ---- a history

-- the rows of a history from a position on
abbrev rows_from : NamedGraph → List (List ℕ) → ℕ → List Entry → List Row
rows_from g clients at [] = []
rows_from g clients at (e ∷ es) =
    record {
      at = at;
      line = e.line;
      rest = name_of clients e.client ++
          (32 ∷ reply_text g e.command e.reply);
    } ∷ rows_from g clients (at + 1) es

-- an output line is the row of its entry
line_is : (at line : List ℕ) (client reply : List ℕ) →
    at ++ codes " " ++ line ++ codes " " ++ client ++ codes " " ++ reply ++ codes "\n"
    ≡ (at ++ (32 ∷ (line ++ (32 ∷ (client ++ (32 ∷ reply)))))) ++ 10 ∷ []
line_is at line client reply = ap (λ xs. xs ++ 10 ∷ []) (simp append_assoc)

text_is : (g : NamedGraph) (clients : List (List ℕ)) (at : ℕ) (history : List Entry) →
    history_text_from g clients at history ≡ rows_text (rows_from g clients at history)
text_is g clients at [] = refl
text_is g clients at (e ∷ es) =
    ap (λ xs. xs ++ history_text_from g clients (at + 1) es)
    (line_is (decimal at) (decimal e.line) (name_of clients e.client) (reply_text g e.command e.reply))
    ∙ ap (λ xs. row_text (record {
      at = at;
      line = e.line;
      rest = name_of clients e.client ++
          (32 ∷ reply_text g e.command e.reply);
    }) ++ xs) (text_is g clients (at + 1) es)

count_is : (g : NamedGraph) (clients : List (List ℕ)) (at : ℕ) (history : List Entry) → length
    (rows_from g clients at history) ≡ length history
count_is g clients at [] = refl
count_is g clients at (e ∷ es) = ap suc (count_is g clients (at + 1) es)

lines_are : (g : NamedGraph) (clients : List (List ℕ)) (at : ℕ) (history : List Entry) → map (λ (row : Row). row.line)
    (rows_from g clients at history) ≡ map (λ (e : Entry). e.line) history
lines_are g clients at [] = refl
lines_are g clients at (e ∷ es) = ap (λ ns. e.line ∷ ns) (lines_are g clients (at + 1) es)

are_small : (g : NamedGraph) (clients : List (List ℕ)) (at : ℕ) (history : List Entry) → AllByRecursion
    (λ (e : Entry). e.line < 2 ^ 64) history → at + length history < 2 ^ 64 →
    AllByRecursion IsSmall (rows_from g clients at history)
are_small g clients at [] small few = tt
are_small g clients at (e ∷ es) small few = (
  (omega arith, small.0),
  are_small g clients (at + 1) es small.1
      (omega arith),
)

-- the text of a history names the lines of its entries, where it has one line feed for each
pub history_column : (g : NamedGraph) (clients : List (List ℕ)) (history : List Entry) → AllByRecursion
    (λ (e : Entry). e.line < 2 ^ 64) history → length history < 2 ^ 64 →
    line_feeds (history_text g clients history) ≡ length history → line_column (history_text g clients history) ≡ map
    (λ (e : Entry). e.line) history
history_column g clients history small few one_each =
    let text = text_is g clients 0 history in
    let rows = rows_from g clients 0 history in
    let feeds : line_feeds (rows_text rows) ≡ length rows = sym (ap line_feeds text)
    ∙ (one_each ∙ sym (count_is g clients 0 history)) in
    ap line_column text ∙ (column_is rows (are_small g clients 0 history small (omega arith)) feeds
    ∙ lines_are g clients 0 history)
