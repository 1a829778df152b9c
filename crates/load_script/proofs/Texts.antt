-- What one command more adds to the input of a load.
use Rattle.std.proofs.Common.{◌≡◌, ℕ, ◌+◌, ◌*◌, ◌%◌, ◌/◌, List, [], ◌∷◌, ◌++◌, map, codes, sym, ◌∙◌, ap}
use Rattle.std.proofs.Common.{arith, append_assoc, add-one, append-nil}
use Rattle.std.specs.List.{concat, range_with_len}
use Rattle.std.proofs.lemmas.List.FromFn.{map-range_with_len_more}
use Rattle.std.proofs.lemmas.List.Folds.{concat-append}
use Rattle.load_script.specs.Draws.{drawn, row_of, extent_of, seconds_on, second_at}
use Rattle.load_script.specs.Lines.{command_text, load_line, ended_line}

-- the texts of one more number
pub texts_more : (f : ℕ → List ℕ) (k : ℕ) →
    concat (map f (range_with_len 1 (k + 1))) ≡ concat (map f (range_with_len 1 k)) ++ f (k + 1)
texts_more f k =
    ap concat (map-range_with_len_more f 1 k (k + 1) (omega arith))
    ∙ (concat-append (map f (range_with_len 1 k)) (f (k + 1) ∷ [])
    ∙ ap (λ ys. concat (map f (range_with_len 1 k)) ++ ys) (append-nil (f (k + 1))))

-- the next number
pub drawn_more : (commands k number : ℕ) → number ≡ drawn commands k →
    (1103515245 * number + 12345) % 2147483648 ≡ drawn commands (k + 1)
drawn_more commands k number is =
    ap (λ n. (1103515245 * n + 12345) % 2147483648) is ∙ sym (ap (drawn commands) (add-one k))

-- the second behind one more command
pub second_more : (commands k number second : ℕ) → number ≡ drawn commands (k + 1) → second ≡ second_at commands k →
    second + seconds_on (number / 65536 % 8) (number / 65536 / 8) ≡ second_at commands (k + 1)
second_more commands k number second is at =
    (λ i. at i + seconds_on (is i / 65536 % 8) (is i / 65536 / 8))
    ∙ (ap (λ j. second_at commands k + seconds_on (row_of commands j) (extent_of commands j)) (add-one k)
    ∙ sym (ap (second_at commands) (add-one k)))

-- the line of one more command
pub line_more : (commands k number second : ℕ) → number ≡ drawn commands (k + 1) → second ≡ second_at commands (k + 1) →
    codes "load " ++ command_text (k + 1) (number / 65536 % 8)
    (number / 65536 / 8) second ++ codes "\n" ≡ ended_line commands (k + 1)
unfolding load_line
line_more commands k number second is at =
    (λ i. codes "load " ++ command_text (k + 1) (is i / 65536 % 8) (is i / 65536 / 8) (at i) ++ codes "\n")
    ∙ sym (append_assoc (codes "load ") (command_text (k + 1) (row_of commands (k + 1)) (extent_of commands (k + 1))
    (second_at commands (k + 1))) (codes "\n"))

-- the text with one more line
pub text_more : (commands k number second : ℕ) (text new : List ℕ) →
    text ≡ concat (map (ended_line commands) (range_with_len 1 k)) →
    new ≡ text ++ (codes "load " ++ command_text (k + 1) (number / 65536 % 8)
    (number / 65536 / 8) second ++ codes "\n") →
    number ≡ drawn commands (k + 1) → second ≡ second_at commands (k + 1) →
    new ≡ concat (map (ended_line commands) (range_with_len 1 (k + 1)))
text_more commands k number second text new so_far added is at =
    added ∙ ((λ i. so_far i ++ line_more commands k number second is at i) ∙ sym (texts_more (ended_line commands) k))
