-- What rows say of how much vertices serve of one need, and over which later windows.
use Rattle.std.specs.Prelude.{◌≡◌, ◌≢◌, ℕ, ◌+◌, ◌-◌, ◌*◌, ◌^◌, ◌<◌, ◌≤◌, ◌⊎◌, nat_le, if◌then◌else◌, List, [], ◌∷◌}
use Rattle.std.specs.Prelude.{◌++◌, Some, MatchOption, slice_get, slice_set, sum_by, take, drop, length, Contains}
use Rattle.flux_defs.specs.declared.vertices.Vertex.{Vertex}
use Rattle.flux_defs.specs.declared.claims.Window.{Window}
use Rattle.flux_defs.specs.declared.requests.Need.{Need, Vert', Pool, Spread'}
use Rattle.flux_defs.specs.Later.{ReachesOver}
use Rattle.flux_defs.specs.Needs.{IsOfNeed}
use Rattle.flux_defs.specs.Present.{Present, InEach}
use Rattle.dfu_match.specs.declared.knowing.Row.{Row}
use Rattle.dfu_match.specs.declared.knowing.Known.{Known}
use Rattle.dfu_match.specs.declared.leaving.Left.{Left}
use Rattle.dfu_match.specs.Searches.{open_to}
use Rattle.dfu_match.specs.Reaches.{ServesAtMost}

-- as much as is ever asked of one vertex: 1 of a need of vertices, and else all of the need
abbrev pub whole_of : Need → ℕ
whole_of (Vert' kind count hold m needs) = 1
whole_of (Pool kind quantity) = quantity
whole_of (Spread' count m needs) = count

-- no vertex from `from` on and before `to` is of the need
abbrev pub NoneOfNeed : List Vertex → Need → ℕ → ℕ → Type 0
NoneOfNeed vertices need from to = (v : ℕ) → from ≤ v → v < to → IsOfNeed vertices need v → ⊥

-- the rows are of the vertices of the need from `low` on and before `to`, in their order
abbrev pub StandFrom : List Vertex → Need → ℕ → List Row → ℕ → Type 0
StandFrom vertices need low [] to = NoneOfNeed vertices need low to
StandFrom vertices need low (row ∷ rows) to =
    NoneOfNeed vertices need low row.vertex × StandFrom vertices need (row.vertex + 1) rows to

-- The row is of a vertex of the need. Unless it says all that is ever asked of one vertex, this one serves no more than
-- so much over each window that reaches over w from the row's moment on, whatever the view stands for.
pub record IsRowOf (vertices : List Vertex) (stands : Present → Type 0) (barred : List ℕ) (w : Window) (need : Need)
    (row : Row) : Type 0 where
  pub of_need : IsOfNeed vertices need row.vertex
  pub bounds : row.most < whole_of need → InEach stands (λ present. (other : Window) →
      ReachesOver w row.moment other →
      ServesAtMost vertices (open_to vertices present barred other) need row.vertex row.most)

-- how much of the need a row leaves its vertex to serve at most over windows that begin at this second
abbrev pub bound_at : Need → ℕ → Row → ℕ
bound_at need t row = if nat_le t row.moment then row.most else whole_of need

-- and all rows together
abbrev pub served_most : Need → ℕ → List Row → ℕ
served_most need t rows = sum_by (bound_at need t) rows

-- The rows leave at most so much over windows that begin from the second `from` to `until`. The greatest number of 64
-- binary digits says nothing.
abbrev pub IsLeft : Need → List Row → Left → Type 0
IsLeft need rows left = (t : ℕ) → left.from ≤ t → t ≤ left.until → left.room < 2 ^ 64 - 1 →
    served_most need t rows ≤ left.room

-- of each sixteen rows, one after the other, it is told what they leave
abbrev pub AreLefts : Need → List Row → List Left → Type 0
AreLefts need rows lefts =
    ((b : ℕ) (left : Left) → slice_get lefts b ≡ Some left → IsLeft need (take 16 (drop (16 * b) rows)) left)
    × (length rows ≤ 16 * length lefts)

-- the row tells that its vertex serves nothing over windows that begin at this second
abbrev pub IsNone : ℕ → Row → Type 0
IsNone from row = (row.most ≡ 0) × (from ≤ row.moment)

-- and so does each of the rows from the index `start` on and before `after`
abbrev pub AreNone : ℕ → ℕ → ℕ → List Row → Type 0
AreNone from start after rows = (i : ℕ) (row : Row) → start ≤ i → i < after → slice_get rows i ≡ Some row →
    IsNone from row

-- the position is that of the row at the index, and where the rows reach to if that is past the last one
abbrev pub IsReachBefore : Known → ℕ → ℕ → Type 0
IsReachBefore known i position =
    MatchOption (slice_get known.rows.items i) (position ≡ known.end) (λ row. position ≡ row.vertex)

-- what is known is so: the rows are of one own need of the ask, and of its vertices before `end`
pub record Knows (vertices : List Vertex) (stands : Present → Type 0) (barred : List ℕ) (needs : List Need)
    (w : Window) (known : Known) : Type 0 where
  pub rows : (need : Need) → slice_get needs known.own ≡ Some need → (row : Row) → Contains known.rows.items row →
      IsRowOf vertices stands barred w need row
  pub order : (need : Need) → slice_get needs known.own ≡ Some need →
      StandFrom vertices need 0 known.rows.items known.end
  pub lefts : (need : Need) → slice_get needs known.own ≡ Some need →
      AreLefts need known.rows.items known.blocks.items

-- each that has changed, or is of this place, tells of no window
abbrev pub IsForgotten : ℕ → List Left → List Left → Type 0
IsForgotten block old new = (b : ℕ) (left : Left) → slice_get new b ≡ Some left →
    ((slice_get old b ≡ Some left) × (b ≢ block)) ⊎ (left.until < left.from)

-- where the old ones tell it of the old rows, the new ones do of the new rows
abbrev pub KeepsLefts : Known → Known → Type 0
KeepsLefts old new = (need : Need) → AreLefts need old.rows.items old.blocks.items →
    AreLefts need new.rows.items new.blocks.items

-- no row but that at the index has changed
abbrev pub IsSetAt : ℕ → List Row → List Row → Type 0
IsSetAt i old new = (row : Row) → slice_get new i ≡ Some row → new ≡ slice_set old i row

-- nothing has changed, or the row stands in the place of one of the same vertex
abbrev pub IsPut : ℕ → Row → Known → Known → Type 0
IsPut own row old new = KeepsLefts old new
    × (((new.rows.items ≡ old.rows.items) × (new.end ≡ old.end))
    ⊎ ((i : ℕ) × (was : Row) × (slice_get old.rows.items i ≡ Some was) × (was.vertex ≡ row.vertex)
    × (new.rows.items ≡ slice_set old.rows.items i row) × (new.end ≡ old.end) × (old.own ≡ own)))

-- the same, or it stands behind the others, which were of the vertices before `from` and now are of those before `past`
abbrev pub IsNoted : ℕ → ℕ → ℕ → Row → Known → Known → Type 0
IsNoted own from past row old new =
    IsPut own row old new
    ⊎ (KeepsLefts old new × (new.rows.items ≡ old.rows.items ++ row ∷ []) × (old.end ≡ from) × (new.end ≡ past)
    × (old.own ≡ own))
