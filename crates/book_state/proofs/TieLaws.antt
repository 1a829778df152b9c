-- Rows and jobs that agree go on to agree.
use Rattle.std.proofs.Common.{◌≡◌, ◌≢◌, ℕ, false, not, ◌==◌, List, [], ◌∷◌, ◌++◌, ◌↔◌, IsTrue, Some, None, Option, inl}
use Rattle.std.proofs.Common.{inr, refl, sym, ◌∙◌, ap, subst, true≢false, cond}
use Rattle.std.proofs.lemmas.Bool.{and_parts, and_from, or_cases, or_left, or_right, eq-eqb, eqb-true}
use Rattle.std.proofs.lemmas.Bool.Decides.{eqb_tells}
use Rattle.std.specs.List.{list_any}
use Rattle.std.specs.Ordering.{nat_cmp}
use Rattle.std.specs.FinMap.{FinMap, get, insert, empty, get-empty}
use Rattle.std.proofs.lemmas.Option.{same_Some}
use Rattle.flux_defs.specs.declared.claims.Job.{Job}
use Rattle.flux_defs.specs.Scheduler.{without_job}
use Rattle.job_table.specs.declared.tables.Row.{Row}
use Rattle.job_table.specs.Rows.{live_row, cancelled_row, HasLiveRow}
use Rattle.job_table.proofs.RowLaws.{get_same, get_other}
use Rattle.graph_laws.proofs.Containment.{not_from, not_to}
use Rattle.book_state.specs.Ties.{is_live_row, has_job, have_own_ids, Agree}
use Rattle.list_laws.proofs.Tests.{same_tests}

abbrev HasJob : List Job → ℕ → Type 0
HasJob jobs id = IsTrue (has_job jobs id)

abbrev HaveOwnIds : List Job → Type 0
HaveOwnIds [] = Unit {0}
HaveOwnIds (job ∷ jobs) = (HasJob jobs job.id → ⊥) × HaveOwnIds jobs

own_to : (jobs : List Job) → HaveOwnIds jobs → IsTrue (have_own_ids jobs)
own_to [] own = refl
own_to (job ∷ jobs) own = and_from _ _ (not_from (has_job jobs job.id) own.0) (own_to jobs own.1)

own_from : (jobs : List Job) → IsTrue (have_own_ids jobs) → HaveOwnIds jobs
own_from [] t = tt
own_from (job ∷ jobs) t = let b = and_parts (not (has_job jobs job.id)) (have_own_ids jobs) t in
    (not_to (has_job jobs job.id) b.0, own_from jobs b.1)

-- the same with facts in place of tests
record Tied (rows : FinMap nat_cmp Row) (jobs : List Job) : Type 0 where
  live : (id : ℕ) → (HasLiveRow rows id ↔ HasJob jobs id)
  own : HaveOwnIds jobs

row_live : (row : Option Row) → IsTrue (is_live_row row) → (at : ℕ) × (row ≡ Some (live_row at))
row_live None t = absurd (true≢false (sym t))
row_live (Some row) t = (row.at, λ i. Some (record { at = row.at; live = t i }))

live_is : (row : Option Row) (at : ℕ) → row ≡ Some (live_row at) → IsTrue (is_live_row row)
live_is row at e = ap is_live_row e

tied_of : (rows : FinMap nat_cmp Row) (jobs : List Job) → Agree rows jobs → Tied rows jobs
tied_of rows jobs a = record {
  live = λ id. (λ h. sym (a.live id) ∙ live_is (get rows id) h.0 h.1, λ t. row_live (get rows id) (a.live id ∙ t));
  own = own_from jobs a.own;
}

agree_of : (rows : FinMap nat_cmp Row) (jobs : List Job) → Tied rows jobs → Agree rows jobs
agree_of rows jobs t = record {
  live = λ id. same_tests (is_live_row (get rows id)) (has_job jobs id)
      (λ l. (t.live id).0 (row_live (get rows id) l)) (λ h. let r = (t.live id).1 h in live_is (get rows id) r.0 r.1);
  own = own_to jobs t.own;
}

pub agree_none : Agree empty []
agree_none = record { live = λ id. ap is_live_row (get-empty nat_cmp id); own = refl }

-- a job more
has_more : (jobs : List Job) (job : Job) (k : ℕ) → HasJob (jobs ++ job ∷ []) k → (job.id ≡ k → ⊥) → HasJob jobs k
has_more [] job k h ne = elim (or_cases (job.id == k) false h) [ inl t ↦ absurd (ne (eqb-true job.id k t)) | inr f ↦ f ]
has_more (j ∷ jobs) job k h ne = elim (or_cases (j.id == k) (list_any (λ x. x.id == k) (jobs ++ job ∷ [])) h) [
  | inl t ↦ or_left _ _ t
  | inr r ↦ or_right (j.id == k) _ (has_more jobs job k r ne)
]

has_old : (jobs : List Job) (job : Job) (k : ℕ) → HasJob jobs k → HasJob (jobs ++ job ∷ []) k
has_old [] job k h = absurd (true≢false (sym h))
has_old (j ∷ jobs) job k h = elim (or_cases (j.id == k) (list_any (λ x. x.id == k) jobs) h) [
  | inl t ↦ or_left _ _ t
  | inr r ↦ or_right (j.id == k) _ (has_old jobs job k r)
]

has_new : (jobs : List Job) (job : Job) (k : ℕ) → job.id ≡ k → HasJob (jobs ++ job ∷ []) k
has_new [] job k e = or_left _ false (eq-eqb job.id k e)
has_new (j ∷ jobs) job k e = or_right (j.id == k) _ (has_new jobs job k e)

own_more : (jobs : List Job) (job : Job) → HaveOwnIds jobs → (HasJob jobs job.id → ⊥) → HaveOwnIds (jobs ++ job ∷ [])
own_more [] job own new = ((λ h. true≢false (sym h)), tt)
own_more (j ∷ jobs) job own new = (
  (λ h. own.0 (has_more jobs job j.id h (λ e. new (or_left _ _ (eq-eqb j.id job.id (sym e)))))),
  own_more jobs job own.1 (λ h. new (or_right (j.id == job.id) _ h)),
)

tied_more : (rows : FinMap nat_cmp Row) (jobs : List Job) (job : Job) (at : ℕ) →
    get rows job.id ≡ None → Tied rows jobs → Tied (insert rows job.id (live_row at)) (jobs ++ job ∷ [])
tied_more rows jobs job at fresh a = record {
  live = λ k. elim (eqb_tells k job.id) [
    | inl y ↦ (
      λ h. has_new jobs job k (sym y.1),
      λ h. (
        at,
        subst (λ (x : ℕ). get (insert rows job.id (live_row at)) x
            ≡ Some (live_row at)) (sym y.1) (get_same rows job.id (live_row at)),
      ),
    )
    | inr n ↦ (
      λ h. has_old jobs job k ((a.live k).0 (h.0, sym (get_other rows job.id (live_row at) k n.1) ∙ h.1)),
      λ h. let r = (a.live k).1 (has_more jobs job k h (λ e. n.1 (sym e))) in
          (r.0, get_other rows job.id (live_row at) k n.1 ∙ r.1),
    )
  ];
  own = own_more jobs job a.own
      (λ h. let r = (a.live job.id).1 h in let e : None ≡ Some (live_row r.0) = sym fresh ∙ r.1 in absurd (cc));
}

pub agree_more : (rows : FinMap nat_cmp Row) (jobs : List Job) (job : Job) (at : ℕ) →
    get rows job.id ≡ None → Agree rows jobs → Agree (insert rows job.id (live_row at)) (jobs ++ job ∷ [])
agree_more rows jobs job at fresh a = agree_of _ _ (tied_more rows jobs job at fresh (tied_of rows jobs a))

-- a job less
pub without_is : (id : ℕ) (job : Job) (jobs : List Job) →
    job.id ≡ id → without_job id (job ∷ jobs) ≡ without_job id jobs
without_is id job jobs e =
    ap (λ b. cond (not b) (job ∷ without_job id jobs) (without_job id jobs)) (eq-eqb job.id id e)

pub without_not : (id : ℕ) (job : Job) (jobs : List Job) →
    job.id ≢ id → without_job id (job ∷ jobs) ≡ job ∷ without_job id jobs
without_not id job jobs ne = elim (eqb_tells job.id id) [
  | inl y ↦ absurd (ne y.1)
  | inr n ↦ ap (λ b. cond (not b) (job ∷ without_job id jobs) (without_job id jobs)) n.0
]

gone : (id : ℕ) (jobs : List Job) → HasJob (without_job id jobs) id → ⊥
gone id [] h = true≢false (sym h)
gone id (job ∷ jobs) h = elim (eqb_tells job.id id) [
  | inl y ↦ gone id jobs (subst (λ (js : List Job). HasJob js id) (without_is id job jobs y.1) h)
  | inr n ↦ elim (or_cases (job.id == id) (list_any (λ x. x.id == id) (without_job id jobs))
      (subst (λ (js : List Job). HasJob js id) (without_not id job jobs n.1) h)) [
        | inl t ↦ n.1 (eqb-true job.id id t)
        | inr r ↦ gone id jobs r
      ]
]

left_has : (id k : ℕ) (jobs : List Job) → HasJob (without_job id jobs) k → HasJob jobs k
left_has id k [] h = h
left_has id k (job ∷ jobs) h = elim (eqb_tells job.id id) [
  | inl y ↦ or_right
      (job.id == k) _ (left_has id k jobs (subst (λ (js : List Job). HasJob js k) (without_is id job jobs y.1) h))
  | inr n ↦ elim (or_cases (job.id == k) (list_any (λ x. x.id == k) (without_job id jobs))
      (subst (λ (js : List Job). HasJob js k) (without_not id job jobs n.1) h)) [
        | inl t ↦ or_left _ _ t
        | inr r ↦ or_right (job.id == k) _ (left_has id k jobs r)
      ]
]

stays : (id k : ℕ) (jobs : List Job) → k ≢ id → HasJob jobs k → HasJob (without_job id jobs) k
stays id k [] ne h = h
stays id k (job ∷ jobs) ne h = elim (eqb_tells job.id id) [
  | inl y ↦ subst (λ (js : List Job). HasJob js k)
      (sym (without_is id job jobs y.1)) (elim (or_cases (job.id == k) (list_any (λ x. x.id == k) jobs) h) [
        | inl t ↦ absurd (ne (sym (eqb-true job.id k t) ∙ y.1))
        | inr r ↦ stays id k jobs ne r
      ])
  | inr n ↦ subst (λ (js : List Job). HasJob js k)
      (sym (without_not id job jobs n.1)) (elim (or_cases (job.id == k) (list_any (λ x. x.id == k) jobs) h) [
        | inl t ↦ or_left _ _ t
        | inr r ↦ or_right (job.id == k) _ (stays id k jobs ne r)
      ])
]

own_less : (id : ℕ) (jobs : List Job) → HaveOwnIds jobs → HaveOwnIds (without_job id jobs)
own_less id [] own = tt
own_less id (job ∷ jobs) own = elim (eqb_tells job.id id) [
  | inl y ↦ subst HaveOwnIds (sym (without_is id job jobs y.1)) (own_less id jobs own.1)
  | inr n ↦ subst HaveOwnIds
      (sym (without_not id job jobs n.1)) ((λ h. own.0 (left_has id job.id jobs h)), own_less id jobs own.1)
]

tied_less : (rows : FinMap nat_cmp Row) (jobs : List Job) (id at : ℕ) →
    Tied rows jobs → Tied (insert rows id (cancelled_row at)) (without_job id jobs)
tied_less rows jobs id at a = record {
  live = λ k. elim (eqb_tells k id) [
    | inl y ↦ (
      λ h. let e : cancelled_row at ≡ live_row h.0 = same_Some _ _ (sym (get_same rows id (cancelled_row at))
          ∙ subst (λ (x : ℕ). get (insert rows id (cancelled_row at)) x ≡ Some (live_row h.0)) y.1 h.1) in
          absurd (true≢false (sym (ap (λ r. r.live) e))),
      λ h. absurd (gone id jobs (subst (HasJob (without_job id jobs)) y.1 h)),
    )
    | inr n ↦ (
      λ h. stays id k jobs n.1 ((a.live k).0 (h.0, sym (get_other rows id (cancelled_row at) k n.1) ∙ h.1)),
      λ h. let r = (a.live k).1 (left_has id k jobs h) in (r.0, get_other rows id (cancelled_row at) k n.1 ∙ r.1),
    )
  ];
  own = own_less id jobs a.own;
}

pub agree_less : (rows : FinMap nat_cmp Row) (jobs : List Job) (id at : ℕ) →
    Agree rows jobs → Agree (insert rows id (cancelled_row at)) (without_job id jobs)
agree_less rows jobs id at a = agree_of _ _ (tied_less rows jobs id at (tied_of rows jobs a))

-- a list without the job of an id that stands in it once
none_without : (id : ℕ) (jobs : List Job) → (HasJob jobs id → ⊥) → without_job id jobs ≡ jobs
none_without id [] f = refl
none_without id (job ∷ jobs) f =
    without_not id job jobs (λ e. f (or_left _ _ (eq-eqb job.id id e)))
    ∙ ap (λ js. job ∷ js) (none_without id jobs (λ h. f (or_right (job.id == id) _ h)))

in_middle : (before after : List Job) (job : Job) → HasJob (before ++ job ∷ after) job.id
in_middle [] after job = or_left _ _ (eq-eqb job.id job.id refl)
in_middle (j ∷ before) after job = or_right (j.id == job.id) _ (in_middle before after job)

middle : (before after : List Job) (job : Job) →
    HaveOwnIds (before ++ job ∷ after) → without_job job.id (before ++ job ∷ after) ≡ before ++ after
middle [] after job own = without_is job.id job after refl ∙ none_without job.id after own.0
middle (j ∷ before) after job own =
    without_not job.id j (before ++ job ∷ after)
    (λ e. own.0 (subst (HasJob (before ++ job ∷ after)) (sym e) (in_middle before after job)))
    ∙ ap (λ js. j ∷ js) (middle before after job own.1)

pub without_middle : (before after : List Job) (job : Job) →
    IsTrue (have_own_ids (before ++ job ∷ after)) → without_job job.id (before ++ job ∷ after) ≡ before ++ after
without_middle before after job own = middle before after job (own_from (before ++ job ∷ after) own)

pub live_tells : (rows : FinMap nat_cmp Row) (jobs : List Job) →
    Agree rows jobs → (id : ℕ) → (HasLiveRow rows id ↔ IsTrue (has_job jobs id))
live_tells rows jobs a id = (tied_of rows jobs a).live id

pub agree_along : (rows others : FinMap nat_cmp Row) (jobs those : List Job) →
    others ≡ rows → those ≡ jobs → Agree rows jobs → Agree others those
agree_along rows others jobs those e f a =
    subst (λ (r : FinMap nat_cmp Row). Agree r those) (sym e) (subst (Agree rows) (sym f) a)
