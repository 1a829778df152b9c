-- Equal parts, as a list.
use Rattle.std.proofs.Common.{◌≡◌, ℕ, suc, ◌<◌, List, ◌∷◌, length, get_or, drop, sym, ◌∙◌, ap}
use Rattle.std.proofs.Math.Seq.{drop-cons}

-- a list from a place on is the part there, and the list from the next place on
pub from_place : {S : Type 0} (parts : List S) (place : ℕ) (part : S) (others : List S) → place < length parts →
    part ≡ get_or parts place part → others ≡ drop (suc place) parts → part ∷ others ≡ drop place parts
from_place parts place part others within here rest =
    ap (λ p. p ∷ others) here ∙ ap (λ l. get_or parts place part ∷ l) rest ∙ sym (drop-cons parts place part within)
