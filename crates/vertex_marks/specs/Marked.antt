-- Which list of down vertices marks stand for.
use Rattle.std.specs.Prelude.{◌≡◌, ℕ, ◌+◌, ◌-◌, ◌<◌, Bool, if◌then◌else◌, List, [], length, Some, slice_get, slice_set}
use Rattle.flux_defs.specs.declared.vertices.Vertex.{Vertex}
use Rattle.flux_defs.specs.Graph.{is_at_or_below}
use Rattle.vertex_marks.specs.declared.marks.Mark.{Mark}
use Rattle.vertex_marks.specs.declared.marks.Marks.{Marks}
use Rattle.vertex_marks.specs.Down.{is_among, down_within, AreDown}

-- the mark tells whether v is down, and how many at or below it are
pub record IsMarkOf (vertices : List Vertex) (down : List ℕ) (v : ℕ) (mark : Mark) : Type 0 where
  pub tells : mark.down ≡ is_among down v
  pub within : mark.within ≡ down_within vertices down v

-- each vertex has its mark
pub record HaveMarks (vertices : List Vertex) (down : List ℕ) (marks : List Mark) : Type 0 where
  pub as_many : length marks ≡ length vertices
  pub each : (v : ℕ) (mark : Mark) → slice_get marks v ≡ Some mark → IsMarkOf vertices down v mark

-- these marks, or none yet and each vertex up
pub record MayMark (vertices : List Vertex) (down : List ℕ) (marks : List Mark) : Type 0 where
  pub bare : length marks ≡ 0 → down ≡ []
  pub made : 0 < length marks → HaveMarks vertices down marks

-- The marks stand for this list of down vertices: there are none before the first vertex goes down.
pub record AreMarks (vertices : List Vertex) (down : List ℕ) (marks : Marks) : Type 0 where
  pub fair : AreDown vertices down
  pub count : marks.count ≡ length down
  pub bare : length marks.pages ≡ 0 → down ≡ []
  pub made : 0 < length marks.pages → HaveMarks vertices down marks.pages

-- one more at or below, or one fewer
abbrev pub shifted : Bool → Mark → Mark
shifted goes_down mark = record {
  down = mark.down;
  within = if goes_down then mark.within + 1 else mark.within - 1;
}

-- the marks of v and of the vertices above it are shifted, and the others stay
pub record AreShifted (vertices : List Vertex) (v : ℕ) (goes_down : Bool) (old new : List Mark) : Type 0 where
  pub as_many : length new ≡ length old
  pub each : (u : ℕ) (mark : Mark) → slice_get old u ≡ Some mark →
      slice_get new u ≡ Some (if is_at_or_below vertices v u then shifted goes_down mark else mark)

-- the mark at v is shifted
abbrev pub IsShiftedAt : ℕ → Bool → List Mark → List Mark → Type 0
IsShiftedAt v goes_down old new =
    (mark : Mark) → slice_get old v ≡ Some mark → new ≡ slice_set old v (shifted goes_down mark)

-- the mark at v tells now that v is down, or up
abbrev pub IsToldAt : ℕ → Bool → List Mark → List Mark → Type 0
IsToldAt v goes_down old new = (mark : Mark) → slice_get old v ≡ Some mark →
    new ≡ slice_set old v (record { down = goes_down; within = mark.within })
