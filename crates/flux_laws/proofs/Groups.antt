-- The claims of different groups are apart: valid siblings lie in disjoint subtrees, and so do two vertices of one
-- need.
use Rattle.std.proofs.Common.{◌≡◌, ◌≢◌, ℕ, ◌<◌, ◌≤◌, true, false, List, [], ◌∷◌, ◌++◌, length, Option, Some, None}
use Rattle.std.proofs.Common.{slice_get, inl, inr, refl, sym, ◌∙◌, subst, arith, IsTrue, true≢false}
use Rattle.std.specs.List.{AllByRecursion}
use Rattle.std.specs.Option.{IsSomeAnd}
use Rattle.flux_defs.specs.declared.vertices.Vertex.{Vertex}
use Rattle.flux_defs.specs.declared.claims.Claim.{Claim}
use Rattle.flux_defs.specs.declared.claims.Claim.TheVariants.{Take, Hold, Pass}
use Rattle.flux_defs.specs.declared.requests.Need.{Need, Vert', Pool, Spread', Row_of-Need, end_of-Need, more_of-Need}
use Rattle.flux_defs.specs.Graph.{Scope, Everywhere, Beneath, IsIn, is_at_or_below, is_below}
use Rattle.flux_defs.specs.Needs.{IsOfNeed, AreApartKinds, AreApartKindsRow, IsValidNeed, AreValidRow}
use Rattle.flux_defs.specs.Jobs.{vertex_of, holds_over}
use Rattle.flux_defs.specs.Fits.{Pick, NoneFor, AreDistinct, Pieces, Piece, FitsRow}
use Rattle.flux_defs.specs.Sound.{AreSeparate, AreAllSeparate}
use Rattle.graph_laws.proofs.Containment.{ParentsFirst, above_is_chain, below_trans, below_le, below_self}
use Rattle.graph_laws.proofs.Containment.{in_graph, below_from, below_to}
use Rattle.list_laws.proofs.Lists.{all_append, all_along}

same_kind : (k j : ℕ) (x : Option Vertex) → IsSomeAnd x (λ y. y.kind ≡ k) → IsSomeAnd x (λ y. y.kind ≡ j) → k ≡ j
same_kind k j None a b = elim a [ ]
same_kind k j (Some x) a b = sym a ∙ b

-- no vertex of a need is below another of it
abbrev pub NoneNested : List Vertex → Type 0
NoneNested vertices =
    (need : Need) (v u : ℕ) → IsOfNeed vertices need v → IsOfNeed vertices need u → IsTrue (is_below vertices v u) → ⊥

module _ (vertices : List Vertex) (first : ParentsFirst vertices) (unnested : NoneNested vertices) where
  abbrev pub AtOrBelow : ℕ → ℕ → Type 0
  AtOrBelow v u = (v < length vertices) × IsTrue (is_at_or_below vertices v u)

  -- two subtrees with no vertex in common
  abbrev pub AreDisjoint : ℕ → ℕ → Type 0
  AreDisjoint a b = (w : ℕ) → AtOrBelow w a → AtOrBelow w b → ⊥

  from_chain : (a b : ℕ) →
      (IsTrue (is_at_or_below vertices a b) → ⊥) → (IsTrue (is_at_or_below vertices b a) → ⊥) → AreDisjoint a b
  from_chain a b p q w ha hb = elim (above_is_chain vertices first w a b ha.0 ha.1 hb.1) [ inl x ↦ p x | inr y ↦ q y ]

  pub disjoint_sym : (a b : ℕ) → AreDisjoint a b → AreDisjoint b a
  disjoint_sym a b d w hb ha = d w ha hb

  -- two vertices of one need
  pub picks_disjoint : (need : Need) (a b : ℕ) →
      a ≢ b → IsOfNeed vertices need a → IsOfNeed vertices need b → AreDisjoint a b
  picks_disjoint need a b ne ha hb =
      from_chain a b (λ h. unnested need a b ha hb (below_from vertices first a b ne h))
      (λ h. unnested need b a hb ha (below_from vertices first b a (λ e. ne (sym e)) h))

  -- a vertex of two needs gives them a kind in common
  kinds_meet : (a b : Need) (v : ℕ) → AreApartKinds vertices a b → IsOfNeed vertices a v → IsOfNeed vertices b v → ⊥
  kinds_meet (Vert' k c h m n) (Vert' j d i l o) v apart ha hb =
      apart.kinds k refl (same_kind j k (slice_get vertices v) hb ha)
  kinds_meet (Vert' k c h m n) (Pool j d) v apart ha hb =
      apart.kinds k refl (same_kind j k (slice_get vertices v) hb ha)
  kinds_meet (Vert' k c h m n) (Spread' d l o) v apart ha hb = apart.kinds k refl (v, hb, ha)
  kinds_meet (Pool k c) (Vert' j d i l o) v apart ha hb =
      apart.kinds k refl (same_kind j k (slice_get vertices v) hb ha)
  kinds_meet (Pool k c) (Pool j d) v apart ha hb = apart.kinds k refl (same_kind j k (slice_get vertices v) hb ha)
  kinds_meet (Pool k c) (Spread' d l o) v apart ha hb = apart.kinds k refl (v, hb, ha)
  kinds_meet (Spread' c m n) (Vert' j d i l o) v apart ha hb = apart.kinds j (v, ha, hb) refl
  kinds_meet (Spread' c m n) (Pool j d) v apart ha hb = apart.kinds j (v, ha, hb) refl
  kinds_meet (Spread' c m n) (Spread' d l o) v apart ha hb = apart.spreads tt tt

  -- vertices of two siblings
  pub siblings_disjoint : (n m : Need) (a b : ℕ) →
      AreApartKinds vertices n m → IsOfNeed vertices n a → IsOfNeed vertices m b → AreDisjoint a b
  siblings_disjoint n m a b apart ha hb =
      let ne : a ≢ b = λ e. kinds_meet n m b apart (subst (IsOfNeed vertices n) e ha) hb in
      from_chain a b (λ h. apart.nested (b, a, hb, ha, below_from vertices first a b ne h))
      (λ h. apart.nests (a, b, ha, hb, below_from vertices first b a (λ e. ne (sym e)) h))

  -- a claim at or below a vertex
  abbrev pub Under : ℕ → Claim → Type 0
  Under v c = AtOrBelow (vertex_of c) v

  holder : (c d : Claim) (a b : ℕ) →
      AreDisjoint a b → Under a c → Under b d → IsTrue (holds_over vertices (vertex_of d) c) → ⊥
  holder (Take u q) d a b apart hc hd h = true≢false (sym h)
  holder (Pass u) d a b apart hc hd h = true≢false (sym h)
  holder (Hold u) d a b apart hc hd h =
      apart (vertex_of d) (hd.0, below_trans vertices first (vertex_of d) u a hd.0 h hc.1) hd

  -- claims under disjoint vertices are separate
  pub separate : (a b : ℕ) (c d : Claim) → AreDisjoint a b → Under a c → Under b d → AreSeparate vertices c d
  separate a b c d apart hc hd = (
    λ e. apart (vertex_of c) hc (subst (λ (x : ℕ). AtOrBelow x b) (sym e) hd),
    record { first = holder c d a b apart hc hd; second = holder d c b a (disjoint_sym a b apart) hd hc },
  )

  -- a claim under some vertex of which P holds
  abbrev pub UnderSome : (ℕ → Type 0) → Claim → Type 0
  UnderSome P c = (a : ℕ) × P a × Under a c

  separate_all : (a : ℕ) (c : Claim) (ds : List Claim) (Q : ℕ → Type 0) →
      ((b : ℕ) → Q b → AreDisjoint a b) → Under a c →
      AllByRecursion (UnderSome Q) ds → AllByRecursion (AreSeparate vertices c) ds
  separate_all a c [] Q apart hc h = tt
  separate_all a c (d ∷ ds) Q apart hc h =
      (separate a h.0.0 c d (apart h.0.0 h.0.1) hc h.0.2, separate_all a c ds Q apart hc h.1)

  -- two lists of claims, each separate, under vertices that are disjoint
  separate_append : (cs ds : List Claim) (P Q : ℕ → Type 0) →
      ((a b : ℕ) → P a → Q b → AreDisjoint a b) → AllByRecursion (UnderSome P) cs →
      AllByRecursion (UnderSome Q) ds →
      AreAllSeparate vertices cs → AreAllSeparate vertices ds → AreAllSeparate vertices (cs ++ ds)
  separate_append [] ds P Q apart hc hd ac ad = ad
  separate_append (c ∷ cs) ds P Q apart hc hd ac ad = (
    all_append (AreSeparate vertices c) cs ds ac.0 (separate_all hc.0.0 c ds Q (λ b. apart hc.0.0 b hc.0.1) hc.0.2 hd),
    separate_append cs ds P Q apart hc.1 hd ac.1 ad,
  )

  -- what lies below a shared vertex is separate from its pass
  below_pass : (v u : ℕ) (c : Claim) →
      IsIn vertices (Beneath v) u → Under u c → AreSeparate vertices (Pass v) c × Under v c
  below_pass v u c within hc =
      let b = below_to vertices first u v within.1 in
      let lo : v ≤ u = below_le vertices first u v b.0 in
      let ne : u ≢ v = b.1 in
      let le : u ≤ vertex_of c = below_le vertices first (vertex_of c) u hc.1 in (
        (
          λ e. (let same : v ≡ vertex_of c = e in omega arith),
          record { first = λ h. true≢false (sym h); second = above c v u lo ne le },
        ),
        (hc.0, below_trans vertices first (vertex_of c) u v hc.0 hc.1 b.0),
      )
    where
      above : (c : Claim) (v u : ℕ) → v ≤ u → u ≢ v → u ≤ vertex_of c → IsTrue (holds_over vertices v c) → ⊥
      above (Take t q) v u lo ne le h = true≢false (sym h)
      above (Pass t) v u lo ne le h = true≢false (sym h)
      above (Hold t) v u lo ne le h = let d : t ≤ v = below_le vertices first v t h in omega arith

  -- a claim under a vertex of the scope, of which P holds
  abbrev pub RootedIn : Scope → (ℕ → Type 0) → Claim → Type 0
  RootedIn scope P c = (u : ℕ) × (P u × IsIn vertices scope u) × Under u c

  -- such a vertex is disjoint from every vertex of a need that is well apart from the row's
  abbrev pub IsRootOf : {m : _} → Row_of-Need m → ℕ → Type 0
  IsRootOf row u = (need : Need) (v : ℕ) →
      AreApartKindsRow vertices need row → IsOfNeed vertices need v → AreDisjoint v u

  module _ (ok : Claim → Type 0) where
    pub piece_vertex : (scope : Scope) (need : Need) (v q : ℕ) (cs : List Claim) → Piece vertices ok scope need v q cs →
        IsOfNeed vertices need v × IsIn vertices scope v
    piece_vertex scope (Vert' kind count hold m needs) v q cs p = (p.2, p.1)
    piece_vertex scope (Pool kind quantity) v q cs p = (p.1, p.0)
    piece_vertex scope (Spread' count m needs) v q cs p = (p.1, p.0)

    -- the claims are separate, and all at or below v
    abbrev pub IsPieceOf : ℕ → List Claim → Type 0
    IsPieceOf v cs = AreAllSeparate vertices cs × AllByRecursion (Under v) cs

    one : (v : ℕ) (c : Claim) (cs : List Claim) → vertex_of c ≡ v → cs ≡ c ∷ [] → v < length vertices → IsPieceOf v cs
    one v c cs e f lt = subst (IsPieceOf v)
        (sym f) ((tt, tt), ((subst (λ (x : ℕ). AtOrBelow x v) (sym e) (lt, below_self vertices first v lt)), tt))

    passed : (v : ℕ) (within cs : List Claim) (P : ℕ → Type 0) → cs ≡ Pass v ∷ within → v < length vertices →
        AreAllSeparate vertices within → AllByRecursion (RootedIn (Beneath v) P) within → IsPieceOf v cs
    passed v within cs P f lt apart roots =
        subst (IsPieceOf v) (sym f) (
          (
            all_along (RootedIn (Beneath v) P)
                (AreSeparate vertices (Pass v)) (λ c r. (below_pass v r.0 c r.1.1 r.2).0) within roots,
            apart,
          ),
          (
            (lt, below_self vertices first v lt),
            all_along (RootedIn (Beneath v) P) (Under v) (λ c r. (below_pass v r.0 c r.1.1 r.2).1) within roots,
          ),
        )

    abbrev pub IsOfPicks : Need → List Pick → ℕ → Type 0
    IsOfPicks need ps u = IsOfNeed vertices need u × ((v : ℕ) → NoneFor v ps → u ≢ v)

    -- a group of one need
    pub pieces_apart : (scope : Scope) (need : Need) →
        ((v q : ℕ) (cs : List Claim) → Piece vertices ok scope need v q cs → IsPieceOf v cs) →
        (ps : List Pick) (cs : List Claim) → AreDistinct ps → Pieces (Piece vertices ok scope need) ps cs →
        AreAllSeparate vertices cs × AllByRecursion (RootedIn scope (IsOfPicks need ps)) cs
    pieces_apart scope need piece [] cs d g = subst
        (λ (xs : List Claim). AreAllSeparate vertices xs × AllByRecursion (RootedIn scope (IsOfPicks need [])) xs)
        (sym g) (tt, tt)
    pieces_apart scope need piece (p ∷ ps) cs d g =
        let k = piece_vertex scope need p.0 p.1 g.0 g.3 in
        let a = piece p.0 p.1 g.0 g.3 in
        let r = pieces_apart scope need piece ps g.1 d.1 g.4 in
        subst (λ (xs : List Claim). AreAllSeparate vertices xs
        × AllByRecursion (RootedIn scope (IsOfPicks need (p ∷ ps))) xs) (sym g.2) (
          separate_append g.0 g.1 (λ u. u ≡ p.0) (IsOfPicks need ps)
              (λ u w e h. subst (λ (x : ℕ). AreDisjoint x w)
              (sym e) (picks_disjoint need p.0 w (λ same. h.1 p.0 d.0 (sym same)) k.0 h.0))
              (all_along (Under p.0) (UnderSome (λ u. u ≡ p.0)) (λ c h. (p.0, refl, h)) g.0 a.1)
              (all_along (RootedIn scope (IsOfPicks need ps)) (UnderSome (IsOfPicks need ps))
              (λ c h. (h.0, h.1.0, h.2)) g.1 r.1)
              a.0 r.0,
          all_append (RootedIn scope (IsOfPicks need (p ∷ ps))) g.0 g.1
              (all_along (Under p.0) (RootedIn scope (IsOfPicks need (p ∷ ps)))
              (λ c h. (p.0, ((k.0, λ v n. n.0), k.1), h)) g.0 a.1)
              (all_along (RootedIn scope (IsOfPicks need ps)) (RootedIn scope (IsOfPicks need (p ∷ ps)))
              (λ c h. (h.0, ((h.1.0.0, λ v n. h.1.0.1 v n.1), h.1.1), h.2)) g.1 r.1),
        )

    mutual
      pub piece_apart : (scope : Scope) (need : Need) → IsValidNeed vertices need → (v q : ℕ) (cs : List Claim) →
          Piece vertices ok scope need v q cs → IsPieceOf v cs
      piece_apart scope (Vert' kind count true m needs) s v q cs p =
          one v (Hold v) cs refl p.3.0 (in_graph vertices scope v p.1)
      piece_apart scope (Vert' kind count false m needs) s v q cs p =
          let r = row_apart 1 (Beneath v) needs s.2 p.3.0 p.3.3 in passed v p.3.0 cs (IsRootOf needs) p.3.1
          (in_graph vertices scope v p.1) r.0 r.1
      piece_apart scope (Pool kind quantity) s v q cs p = one v (Take v q) cs refl p.2 (in_graph vertices scope v p.0)
      piece_apart scope (Spread' count m needs) s v q cs p =
          let r = row_apart q (Beneath v) needs s.3 p.2.0 p.2.3 in passed v p.2.0 cs (IsRootOf needs) p.2.1
          (in_graph vertices scope v p.0) r.0 r.1

      -- the claims of a fit are separate, and each is under a vertex of one of the needs
      pub row_apart : {m : _} (k : ℕ) (scope : Scope) (row : Row_of-Need m) → AreValidRow vertices row →
          (cs : List Claim) → FitsRow vertices ok k scope row cs →
          AreAllSeparate vertices cs × AllByRecursion (RootedIn scope (IsRootOf row)) cs
      row_apart k scope end_of-Need s cs f = subst
          (λ (xs : List Claim). AreAllSeparate vertices xs × AllByRecursion (RootedIn scope (IsRootOf end_of-Need)) xs)
          (sym f) (tt, tt)
      row_apart k scope (more_of-Need need rest) s cs f =
          let g = pieces_apart scope need (piece_apart scope need s.0) f.3.0 f.0 f.3.1 f.3.4 in
          let r = row_apart k scope rest s.2 f.1 f.4 in
          subst (λ (xs : List Claim). AreAllSeparate vertices xs
          × AllByRecursion (RootedIn scope (IsRootOf (more_of-Need need rest))) xs) (sym f.2) (
            separate_append f.0 f.1 (IsOfNeed vertices need) (IsRootOf rest) (λ a b h i. i need a s.1 h)
                (all_along (RootedIn scope (IsOfPicks need f.3.0)) (UnderSome (IsOfNeed vertices need))
                (λ c h. (h.0, h.1.0.0, h.2)) f.0 g.1)
                (all_along (RootedIn scope (IsRootOf rest)) (UnderSome (IsRootOf rest))
                (λ c h. (h.0, h.1.0, h.2)) f.1 r.1)
                g.0 r.0,
            all_append (RootedIn scope (IsRootOf (more_of-Need need rest))) f.0 f.1
                (all_along (RootedIn scope (IsOfPicks need f.3.0)) (RootedIn scope (IsRootOf (more_of-Need need rest)))
                (λ c h. (h.0, (λ other v apart is. siblings_disjoint other need v h.0 apart.0 is h.1.0.0, h.1.1), h.2))
                f.0 g.1)
                (all_along (RootedIn scope (IsRootOf rest)) (RootedIn scope (IsRootOf (more_of-Need need rest)))
                (λ c h. (h.0, (λ other v apart is. h.1.0 other v apart.1 is, h.1.1), h.2)) f.1 r.1),
          )
