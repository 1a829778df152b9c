-- A text says one set, and no fault is told of it.
use Rattle.std.proofs.Common.{◌≡◌, refl, sym, ap, subst, ◌∙◌, ℕ, List, Some, None, Result, Ok, Err, ◌⊎◌, inl, inr}
use Rattle.std.proofs.Common.{MatchResult, IfOk, IfErr}
use Rattle.serde_json.specs.Data.{Data}
use Rattle.json_whole.specs.Whole.{value_of}
use Rattle.flux_defs.specs.declared.claims.Job.{Job}
use Rattle.json_fields.specs.Values.{result_and_then}
use Rattle.resource_graph.specs.NamedGraph.{NamedGraph}
use Rattle.resource_set_r.specs.declared.faults.Misread.{Misread}
use Rattle.resource_set_r.specs.declared.faults.Misread.TheVariants as misread
use Rattle.resource_set_r.specs.declared.faults.RFault.{RFault}
use Rattle.resource_set_r.specs.declared.faults.RFault.TheVariants as fault
use Rattle.resource_set_r.specs.Misreads.{field_path, field_misread}
use Rattle.idset_text.specs.declared.idsets.Range.{Range}
use Rattle.std.proofs.lemmas.Bool.{cases_order}
use Rattle.resource_set_r.specs.declared.sets_read.RRow.{RRow}
use Rattle.resource_set_r.specs.declared.sets_read.RSet.{RSet}
use Rattle.resource_set_r.specs.ReadRows.{execution_of, rows_in, ranges_in, IsRepeatedRank}
use Rattle.resource_set_r.specs.ReadR.{IsWrongBefore, set_with, HasRows, IsMisreadOf, IsRText, HasMisread, IsFirstFault}
use Rattle.resource_set_r.specs.ReadBack.{CanBeRead, IsOfJob}
use Rattle.resource_set_r.specs.WrittenR.{r_text}
use Rattle.resource_set_r.proofs.SetsBack.{set_back}

same_ok : {A E : Type 0} (r : Result A E) (x y : A) → r ≡ Ok x → r ≡ Ok y → x ≡ y
same_ok (Ok z) x y p q = let a : z ≡ x = cc in let b : z ≡ y = cc in sym a ∙ b
same_ok (Err m) x y p q = absurd (cc)

no_ok : {A E : Type 0} (r : Result A E) (x : A) (m : E) → r ≡ Ok x → r ≡ Err m → ⊥
no_ok (Ok z) x m p q = cc
no_ok (Err n) x m p q = cc

same_value : (bytes : List ℕ) (c d : Data) → value_of bytes ≡ Some c → value_of bytes ≡ Some d → d ≡ c
same_value bytes c d one other = let same : Some d ≡ Some c = sym other ∙ one in cc

module _ (bytes : List ℕ)
    (d e : Data) (rows : List RRow) (value : value_of bytes ≡ Some d) (has : HasRows d e rows) where
  same_rows : (d' e' : Data) (rows' : List RRow) →
      value_of bytes ≡ Some d' → HasRows d' e' rows' → (e' ≡ e) × (rows' ≡ rows)
  same_rows d' e' rows' value' has' =
      let at = subst (λ (x : Data). execution_of x ≡ Ok e') (same_value bytes d d' value value') has'.0 in
      let one : e' ≡ e = same_ok (execution_of d) e' e at has.0 in
      (one, same_ok (rows_in e) rows' rows (subst (λ (x : Data). rows_in x ≡ Ok rows') one has'.1) has.1)

-- a text says one set
pub one_set : (bytes : List ℕ) (a b : RSet) → IsRText bytes a → IsRText bytes b → a ≡ b
one_set bytes a b p q =
    let same = same_rows bytes p.0 p.2.0 p.2.1 p.1 p.2.2 q.0 q.2.0 q.2.1 q.1 q.2.2 in
    let there = subst (λ (x : Data). set_with q.2.1 x ≡ Ok b) same.0 q.2.4 in
    same_ok (set_with p.2.1 p.2.0) a b p.2.4 (subst (λ (x : List RRow). set_with x p.2.0 ≡ Ok b) same.1 there)

no_misread : (bytes : List ℕ) (set : RSet) (m : Misread) → IsRText bytes set → HasMisread bytes m → ⊥
no_misread bytes set m p has = by has.2
  where
    by : IsMisreadOf has.0 m → ⊥
    by (inl before) =
        let at = subst (λ (x : Data). result_and_then (execution_of x) rows_in ≡ Err m)
        (same_value bytes p.0 has.0 p.1 has.1) before in
        let there : result_and_then (execution_of p.0) rows_in ≡ Ok p.2.1 =
        ap (λ r. result_and_then r rows_in) p.2.2.0 ∙ p.2.2.1 in
        no_ok (result_and_then (execution_of p.0) rows_in) p.2.1 m there at
    by (inr (inl r)) =
        let same = same_rows bytes p.0 p.2.0 p.2.1 p.1 p.2.2 has.0 r.0 r.1 has.1 r.2 in
        let least = subst (λ (x : List RRow). IsRepeatedRank (ranges_in x) (Some r.3)) same.1 r.4 in
        p.2.3 r.3 least.0
    by (inr (inr r)) =
        let same = same_rows bytes p.0 p.2.0 p.2.1 p.1 p.2.2 has.0 r.0 r.1 has.1 r.2 in
        let there = subst (λ (x : Data). set_with r.1 x ≡ Err m) same.0 r.4 in
        no_ok (set_with p.2.1 p.2.0) set m p.2.4 (subst (λ (x : List RRow). set_with x p.2.0 ≡ Err m) same.1 there)

-- and no fault is told of it
pub no_fault : (bytes : List ℕ) (set : RSet) (f : RFault) → IsRText bytes set → IsFirstFault bytes f → f ≡ fault.Memory
no_fault bytes set fault.NotJson p told = absurd (let clash : None ≡ Some p.0 = sym told ∙ p.1 in cc)
no_fault bytes set (fault.Field path k) p told = absurd (no_misread bytes set _ p told.2)
no_fault bytes set fault.Version p told = absurd (no_misread bytes set _ p told)
no_fault bytes set (fault.Idset path) p told = absurd (no_misread bytes set _ p told.2)
no_fault bytes set fault.Hosts p told = absurd (no_misread bytes set _ p told)
no_fault bytes set (fault.RepeatedRank rank) p told = absurd (no_misread bytes set _ p told)
no_fault bytes set fault.Memory p told = refl

-- what a reader answers of what was written of a job
pub read_again : (bytes : List ℕ) (r : Result RSet RFault) → IfOk r (IsRText bytes) → IfErr r (IsFirstFault bytes) →
    (g : NamedGraph) (job : Job) → bytes ≡ r_text g job → CanBeRead g job →
    MatchResult r (IsOfJob g job) (λ f. f ≡ fault.Memory)
read_again bytes (Ok set) found told g job is can =
    let back = set_back g job can in
    let text = subst (λ (bs : List ℕ). IsRText bs back.0) (sym is) back.1 in
    subst (λ (s : RSet). IsOfJob g job s) (one_set bytes back.0 set text found) back.2
read_again bytes (Err f) found told g job is can =
    let back = set_back g job can in
    no_fault bytes back.0 f (subst (λ (bs : List ℕ). IsRText bs back.0) (sym is) back.1) told

-- ---- one fault

same_err : {A E : Type 0} (r : Result A E) (x y : E) → r ≡ Err x → r ≡ Err y → x ≡ y
same_err (Ok z) x y p q = absurd (cc)
same_err (Err z) x y p q = let a : z ≡ x = cc in let b : z ≡ y = cc in sym a ∙ b

same_rank : (ranges : List Range) (r s : ℕ) → IsRepeatedRank ranges (Some r) → IsRepeatedRank ranges (Some s) → r ≡ s
same_rank ranges r s a b =
    elim (cases_order r s) [
      | inl same ↦ same
      | inr differ ↦ elim differ [
        | inl less ↦ absurd (b.1 r less a.0)
        | inr more ↦ absurd (a.1 s more b.0)
      ]
    ]

module _ (d : Data) where
  -- a value has rows, or is wrong before them
  rows_or_before : (m : Misread) (e : Data) (rows : List RRow) → HasRows d e rows → IsWrongBefore d m → ⊥
  rows_or_before m e rows has before =
      let there : result_and_then (execution_of d) rows_in ≡ Ok rows =
      ap (λ r. result_and_then r rows_in) has.0 ∙ has.1 in
      no_ok (result_and_then (execution_of d) rows_in) rows m there before

  rows_same : (e e' : Data) (rows rows' : List RRow) → HasRows d e rows → HasRows d e' rows' → (e' ≡ e) × (rows' ≡ rows)
  rows_same e e' rows rows' has has' =
      let one : e' ≡ e = same_ok (execution_of d) e' e has'.0 has.0 in
      (one, same_ok (rows_in e) rows' rows (subst (λ (x : Data). rows_in x ≡ Ok rows') one has'.1) has.1)

  one_misread : (m n : Misread) → IsMisreadOf d m → IsMisreadOf d n → m ≡ n
  one_misread m n (inl p) (inl q) = same_err (result_and_then (execution_of d) rows_in) m n p q
  one_misread m n (inl p) (inr (inl q)) = absurd (rows_or_before m q.0 q.1 q.2 p)
  one_misread m n (inl p) (inr (inr q)) = absurd (rows_or_before m q.0 q.1 q.2 p)
  one_misread m n (inr (inl p)) (inl q) = absurd (rows_or_before n p.0 p.1 p.2 q)
  one_misread m n (inr (inr p)) (inl q) = absurd (rows_or_before n p.0 p.1 p.2 q)
  one_misread m n (inr (inl p)) (inr (inl q)) =
      let same = rows_same p.0 q.0 p.1 q.1 p.2 q.2 in
      let least = subst (λ (x : List RRow). IsRepeatedRank (ranges_in x) (Some q.3)) same.1 q.4 in
      p.5 ∙ ap misread.RepeatedRank (same_rank (ranges_in p.1) p.3 q.3 p.4 least) ∙ sym q.5
  one_misread m n (inr (inl p)) (inr (inr q)) =
      let same = rows_same p.0 q.0 p.1 q.1 p.2 q.2 in
      let none = subst (λ (x : List RRow). IsRepeatedRank (ranges_in x) None) same.1 q.3 in absurd (none p.3 p.4.0)
  one_misread m n (inr (inr p)) (inr (inl q)) =
      let same = rows_same p.0 q.0 p.1 q.1 p.2 q.2 in
      let least = subst (λ (x : List RRow). IsRepeatedRank (ranges_in x) (Some q.3)) same.1 q.4 in
      absurd (p.3 q.3 least.0)
  one_misread m n (inr (inr p)) (inr (inr q)) =
      let same = rows_same p.0 q.0 p.1 q.1 p.2 q.2 in
      let there = subst (λ (x : Data). set_with q.1 x ≡ Err n) same.0 q.4 in
      same_err (set_with p.1 p.0) m n p.4 (subst (λ (x : List RRow). set_with x p.0 ≡ Err n) same.1 there)

-- the fault that tells of a misread
abbrev fault_of : Misread → RFault
fault_of (misread.Field m) = fault.Field (field_path m.field) m.fault
fault_of misread.Version = fault.Version
fault_of (misread.Idset at) = fault.Idset (field_path at)
fault_of misread.Hosts = fault.Hosts
fault_of (misread.RepeatedRank rank) = fault.RepeatedRank rank

-- a fault tells that the bytes are no JSON, or of a misread
abbrev Cause : List ℕ → RFault → Type 0
Cause bytes f = ((value_of bytes ≡ None) × (f ≡ fault.NotJson))
    ⊎ ((m : Misread) × HasMisread bytes m × (f ≡ fault_of m))

cause_of : (bytes : List ℕ) (f : RFault) → (f ≡ fault.Memory → ⊥) → IsFirstFault bytes f → Cause bytes f
cause_of bytes fault.NotJson other told = inl (told, refl)
cause_of bytes (fault.Field path k) other told =
    inr (field_misread told.0 k, told.2, ap (λ (p : List ℕ). fault.Field p k) told.1)
cause_of bytes fault.Version other told = inr (misread.Version, told, refl)
cause_of bytes (fault.Idset path) other told =
    inr (misread.Idset told.0, told.2, ap (λ (p : List ℕ). fault.Idset p) told.1)
cause_of bytes fault.Hosts other told = inr (misread.Hosts, told, refl)
cause_of bytes (fault.RepeatedRank rank) other told = inr (misread.RepeatedRank rank, told, refl)
cause_of bytes fault.Memory other told = absurd (other refl)

-- bytes have one fault at most
pub one_fault : (bytes : List ℕ) (f k : RFault) → (f ≡ fault.Memory → ⊥) → (k ≡ fault.Memory → ⊥) →
    IsFirstFault bytes f → IsFirstFault bytes k → f ≡ k
one_fault bytes f k no_f no_k p q = by (cause_of bytes f no_f p) (cause_of bytes k no_k q)
  where
    by : Cause bytes f → Cause bytes k → f ≡ k
    by (inl a) (inl b) = a.1 ∙ sym b.1
    by (inl a) (inr b) = absurd (let clash : None ≡ Some b.1.0 = sym a.0 ∙ b.1.1 in cc)
    by (inr a) (inl b) = absurd (let clash : None ≡ Some a.1.0 = sym b.0 ∙ a.1.1 in cc)
    by (inr a) (inr b) =
        let there = subst (λ (x : Data). IsMisreadOf x b.0) (same_value bytes a.1.0 b.1.0 a.1.1 b.1.1) b.1.2 in
        a.2 ∙ ap fault_of (one_misread a.1.0 a.0 b.0 a.1.2 there) ∙ sym b.2
