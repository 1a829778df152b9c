-- A need is larger than each need in it.
use Rattle.std.proofs.Common.{◌≡◌, ℕ, zero, suc, ◌<◌, ◌≤◌, Bool, List, [], ◌∷◌, drop, rules, arith}
use borrow.Author.Sizes.{sizes, same_size}
use denote.Param.Weighed.{most}
use Rattle.flux_defs.specs.declared.requests.Need.{Need, Vert, Spread, the_lemmas}
use Rattle.flux_defs.proofs.requests.Need.TheLaws.{the_size}

pub size_Vert : (kind count : ℕ) (hold : Bool) (needs : List Need) →
    most the_size needs < the_size (Vert kind count hold needs)
size_Vert kind count hold needs = search (rules, the_lemmas, sizes, same_size the_size)

pub size_Spread : (count : ℕ) (needs : List Need) → most the_size needs < the_size (Spread count needs)
size_Spread count needs = search (rules, the_lemmas, sizes, same_size the_size)

-- no need of a list is larger than the largest
pub size_item : (needs : List Need) (i : ℕ) (need : Need) (rest : List Need) →
    drop i needs ≡ need ∷ rest → the_size need ≤ most the_size needs
size_item [] zero need rest e = absurd (cc)
size_item [] (suc i) need rest e = absurd (cc)
size_item (n ∷ ns) zero need rest e = let same : n ≡ need = cc in rw (← same) (omega arith)
size_item (n ∷ ns) (suc i) need rest e =
    let le : the_size need ≤ most the_size ns = size_item ns i need rest e in omega arith
