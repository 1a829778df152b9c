-- R that is written of a job is JSON of its value.
use Rattle.std.proofs.Common.{◌≡◌, refl, ap, ◌∙◌, ℕ, ◌^◌, ◌<◌, List, [], ◌∷◌, Bool, true, false, cond, Some, None}
use Rattle.std.proofs.Common.{if◌then◌else◌, codes, IsUtf8, arith}
use Rattle.std.specs.List.{AllByRecursion, filter}
use Rattle.std.specs.Str.{is_utf8}
use Rattle.std.proofs.lemmas.Str.{is_utf8-from_IsUtf8}
use Rattle.json.proofs.Printed.Utf8.{IsUtf8-are_ascii}
use Rattle.serde_json.specs.Data.{number, unsigned, Members, no_members, member}
use Rattle.serde_json.specs.Written.{compact_text}
use Rattle.serde_json.specs.Read.{read}
use Rattle.json_whole.specs.Whole.{value_in, value_of}
use Rattle.flux_defs.specs.declared.claims.Claim.{Claim}
use Rattle.flux_defs.specs.declared.claims.Claim.TheVariants.{Take, Hold, Pass}
use Rattle.flux_defs.specs.declared.claims.Job.{Job}
use Rattle.flux_defs.specs.Jobs.{vertex_of}
use Rattle.resource_graph.specs.NamedGraph.{NamedGraph, path_text}
use Rattle.json_written.proofs.PlainLaws.{IsPlain, ArePlain, HasPlain, is_below, read_compact}
use Rattle.json_written.proofs.PlainText.{plain-compact_text}
use Rattle.json_written.proofs.ClearText.{IsClear, AreClear, HasClear, utf8_value, clear_readable}
use Rattle.idset_text.specs.Idsets.{idset_text}
use Rattle.resource_set_r.specs.declared.rows.Element.{Element}
use Rattle.resource_set_r.specs.Rows.{elements_of, is_other}
use Rattle.resource_set_r.specs.ReadBack.{HasSmallQuantity}
use Rattle.resource_set_r.specs.WrittenR.{with_ids, element_data, elements_data, texts_data, nodelist, execution_data}
use Rattle.resource_set_r.specs.WrittenR.{mode_of, quantity_data, claim_data, claims_data, with_scheduling, r_data}
use Rattle.resource_set_r.specs.WrittenR.{r_text}

-- ---- whole numbers, and keys in order

plain_children : (cores gpus : List ℕ) →
    HasPlain 0 (with_ids (codes "core") cores (with_ids (codes "gpu") gpus no_members))
plain_children [] [] = tt
plain_children [] (gpu ∷ gpus) = (tt, refl, tt)
plain_children (core ∷ cores) [] = (tt, refl, tt)
plain_children (core ∷ cores) (gpu ∷ gpus) = (tt, refl, (tt, refl, tt))

plain_element : (e : Element) → IsPlain 2 (element_data e)
plain_element e = (plain_children e.children.cores e.children.gpus, refl, (tt, refl, tt))

plain_elements : (es : List Element) → ArePlain 2 (elements_data es)
plain_elements [] = tt
plain_elements (e ∷ es) = (plain_element e, plain_elements es)

plain_texts : (texts : List (List ℕ)) → ArePlain 2 (texts_data texts)
plain_texts [] = tt
plain_texts (text ∷ texts) = (tt, plain_texts texts)

plain_execution : (g : NamedGraph) (job : Job) →
    job.start < 2 ^ 64 → job.end < 2 ^ 64 → IsPlain 4 (execution_data g job)
plain_execution g job start end = (
  plain_elements (elements_of g.resources job.claims),
  refl,
  (end, refl, (plain_texts (nodelist g job.claims), refl, (start, refl, tt))),
)

plain_claim : (g : NamedGraph) (c : Claim) → HasSmallQuantity c → IsPlain 2 (claim_data g c)
plain_claim g (Take v q) small = (tt, refl, (tt, refl, (small, refl, tt)))
plain_claim g (Hold v) small = (tt, refl, (tt, refl, tt))
plain_claim g (Pass v) small = (tt, refl, (tt, refl, tt))

plain_claims : (g : NamedGraph) (cs : List Claim) → AllByRecursion HasSmallQuantity cs → ArePlain 2 (claims_data g cs)
plain_claims g [] all = tt
plain_claims g (c ∷ cs) all = (plain_claim g c all.0, plain_claims g cs all.1)

plain_last : HasPlain 4 (member (codes "version") (number (unsigned 1)) no_members)
plain_last = (omega arith, refl, tt)

plain_scheduling : (g : NamedGraph) (cs : List Claim) → AllByRecursion HasSmallQuantity cs →
    HasPlain 4 (with_scheduling g cs (member (codes "version") (number (unsigned 1)) no_members))
plain_scheduling g [] all = plain_last
plain_scheduling g (c ∷ cs) all = ((plain_claims g (c ∷ cs) all, refl, tt), refl, plain_last)

execution_first : (g : NamedGraph) (cs : List Claim) → is_below
    (codes "execution") (with_scheduling g cs (member (codes "version") (number (unsigned 1)) no_members)) ≡ true
execution_first g [] = refl
execution_first g (c ∷ cs) = refl

some_kept : (p : Claim → Bool) (cs : List Claim) →
    AllByRecursion HasSmallQuantity cs → AllByRecursion HasSmallQuantity (filter p cs)
some_kept p [] all = tt
some_kept p (c ∷ cs) all = by (p c) (some_kept p cs all.1)
  where
    by : (b : Bool) → AllByRecursion HasSmallQuantity (filter p cs) →
        AllByRecursion HasSmallQuantity (cond b (c ∷ filter p cs) (filter p cs))
    by true rest = (all.0, rest)
    by false rest = rest

plain_r : (g : NamedGraph) (job : Job) →
    job.start < 2 ^ 64 → job.end < 2 ^ 64 → AllByRecursion HasSmallQuantity job.claims → IsPlain 5 (r_data g job)
plain_r g job start end small =
    let others = filter (is_other g.resources) job.claims in (
      plain_execution g job start end,
      execution_first g others,
      plain_scheduling g others (some_kept (is_other g.resources) job.claims small),
    )

-- ---- texts in UTF-8

clear_ids : (key ids : List ℕ) (rest : Members) → IsUtf8 key → HasClear rest → HasClear (with_ids key ids rest)
clear_ids key [] rest utf8 clear = clear
clear_ids key (id ∷ ids) rest utf8 clear = (utf8, clear_readable (idset_text (id ∷ ids)), clear)

clear_element : (e : Element) → IsClear (element_data e)
clear_element e = (
  IsUtf8-are_ascii (codes "children") refl,
  clear_ids (codes "core") e.children.cores _ (IsUtf8-are_ascii (codes "core") refl)
      (clear_ids (codes "gpu") e.children.gpus no_members (IsUtf8-are_ascii (codes "gpu") refl) tt),
  (IsUtf8-are_ascii (codes "rank") refl, clear_readable (idset_text e.ranks), tt),
)

clear_elements : (es : List Element) → AreClear (elements_data es)
clear_elements [] = tt
clear_elements (e ∷ es) = (clear_element e, clear_elements es)

clear_texts : (texts : List (List ℕ)) → AreClear (texts_data texts)
clear_texts [] = tt
clear_texts (text ∷ texts) = (clear_readable text, clear_texts texts)

clear_execution : (g : NamedGraph) (job : Job) → IsClear (execution_data g job)
clear_execution g job = (
  IsUtf8-are_ascii (codes "R_lite") refl,
  clear_elements (elements_of g.resources job.claims),
  (
    IsUtf8-are_ascii (codes "expiration") refl,
    tt,
    (
      IsUtf8-are_ascii (codes "nodelist") refl,
      clear_texts (nodelist g job.claims),
      (IsUtf8-are_ascii (codes "starttime") refl, tt, tt),
    ),
  ),
)

clear_mode : (c : Claim) → IsUtf8 (mode_of c)
clear_mode (Take v q) = IsUtf8-are_ascii (codes "take") refl
clear_mode (Hold v) = IsUtf8-are_ascii (codes "hold") refl
clear_mode (Pass v) = IsUtf8-are_ascii (codes "pass") refl

clear_quantity : (c : Claim) → HasClear (quantity_data c)
clear_quantity (Take v q) = (IsUtf8-are_ascii (codes "quantity") refl, tt, tt)
clear_quantity (Hold v) = tt
clear_quantity (Pass v) = tt

clear_claims : (g : NamedGraph) (cs : List Claim) → AreClear (claims_data g cs)
clear_claims g [] = tt
clear_claims g (c ∷ cs) = (
  (
    IsUtf8-are_ascii (codes "mode") refl,
    clear_mode c,
    (IsUtf8-are_ascii (codes "path") refl, clear_readable (path_text g (vertex_of c)), clear_quantity c),
  ),
  clear_claims g cs,
)

clear_scheduling : (g : NamedGraph) (cs : List Claim) →
    HasClear (with_scheduling g cs (member (codes "version") (number (unsigned 1)) no_members))
clear_scheduling g [] = (IsUtf8-are_ascii (codes "version") refl, tt, tt)
clear_scheduling g (c ∷ cs) = (
  IsUtf8-are_ascii (codes "scheduling") refl,
  (IsUtf8-are_ascii (codes "claims") refl, clear_claims g (c ∷ cs), tt),
  (IsUtf8-are_ascii (codes "version") refl, tt, tt),
)

clear_r : (g : NamedGraph) (job : Job) → IsClear (r_data g job)
clear_r g job = (
  IsUtf8-are_ascii (codes "execution") refl,
  clear_execution g job,
  clear_scheduling g (filter (is_other g.resources) job.claims),
)

-- what is written of a job is read as its value
pub value_of-r_text : (g : NamedGraph) (job : Job) → job.start < 2 ^ 64 →
    job.end < 2 ^ 64 → AllByRecursion HasSmallQuantity job.claims → value_of (r_text g job) ≡ Some (r_data g job)
unfolding r_text value_of
value_of-r_text g job start end small =
    let plain : IsPlain 5 (r_data g job) = plain_r g job start end small in
    let utf8 : is_utf8 (compact_text (r_data g job)) ≡ true =
    is_utf8-from_IsUtf8 (compact_text (r_data g job)) (utf8_value 5 (r_data g job) plain (clear_r g job)) in
    ap value_in (plain-compact_text 5 (r_data g job) plain)
    ∙ (ap (λ b. if b then read (compact_text (r_data g job)) else None) utf8
    ∙ read_compact 5 (r_data g job) (omega arith) plain)
