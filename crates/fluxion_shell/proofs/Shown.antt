-- What a told graph file and a told input show of an answer, and what it rests on.
use Rattle.std.proofs.Common.{◌≡◌, ℕ, ◌<◌, ◌≤◌, ◌⊎◌, IsTrue, List, [], ◌++◌, length, Option, Some, None, IfSome}
use Rattle.std.proofs.Common.{MatchOption, inl, inr, refl, sym, ◌∙◌, ap, subst, arith}
use Rattle.flux_io.specs.Stores.{Stored, file_of}
use Rattle.flux_io.specs.Streams.{TakesFront}
use Rattle.resource_graph.specs.NamedGraph.{NamedGraph}
use Rattle.graph_json.specs.GraphText.{IsGraphText, IsFirstFault}
use Rattle.graph_json.proofs.TextLaws.{no_fault_told, one_graph_told}
use Rattle.fluxion_lines.specs.declared.commands.Form.{Form}
use Rattle.fluxion_lines.specs.declared.input.Over.{Over}
use Rattle.fluxion_lines.specs.declared.input.Over.TheVariants as over_at
use Rattle.fluxion_lines.specs.Inputs.{is_by_size, over_size_in, over_in}
use Rattle.fluxion_lines.proofs.InputLaws.{size_told}
use Rattle.flux_defs.specs.declared.limits.TheConstants.{SHIPPED, MOST_FILE_BYTES}
use Rattle.fluxion_shell.specs.declared.status.Status.{Status}
use Rattle.fluxion_shell.specs.declared.status.Status.TheVariants as status
use Rattle.asked_calls.specs.Calls.{Served, Call, serve, print, load}
use Rattle.fluxion_shell.specs.Causes.{past_graph, long_input, told_file, IsOfFile, OfServing, OfNaming}
use Rattle.fluxion_shell.specs.Causes.{AppendsFrontOfSome, IsPastLimit, limit_of, HasCause, OrEarlier, IsWritten}
use Rattle.fluxion_shell.specs.Causes.{ShowsLines, ShowsInput, ShowsFile, ShowsStore, IsFirstShown, HasGraphFile}
use Rattle.fluxion_shell.specs.Causes.{IsInOrder, Known, FailsWith}

pub known : (told : Option Stored) (name old new : List ℕ) → old ≡ [] →
    IfSome told (λ files. (bytes : List ℕ) × (file_of files name ≡ Some bytes) × (length bytes ≤ MOST_FILE_BYTES)
    × (new ≡ old ++ bytes)) → Known told name new
known None name old new none h = tt
known (Some files) name old new none (bytes, found, few, is) =
    let same : new ≡ bytes = is ∙ ap (λ xs. xs ++ bytes) none in
    (found ∙ ap Some (sym same), subst (λ (b : List ℕ). length b ≤ MOST_FILE_BYTES) (sym same) few)

-- what holds of a file of the name holds of the told one
told_holds : (told : Option Stored) (name : List ℕ) (P : List ℕ → Type 0) →
    IfSome told (λ files. (bytes : List ℕ) × (file_of files name ≡ Some bytes) × P bytes) → IfSome
    (told_file told name) P
told_holds None name P h = tt
told_holds (Some files) name P (bytes, at, p) = subst (λ (o : Option (List ℕ)). IfSome o P) (sym at) p

-- ---- an answer before any that is shown

-- a failure to read or want of memory
abbrev pub IsEarly : Type 0 → Status → Type 0
IsEarly Failed s = ((s ≡ status.Read) × Failed) ⊎ (s ≡ status.Memory)

earlier : {Failed Shown : Type 0} (s : Status) → IsEarly Failed s → OrEarlier Failed s Shown
earlier s (inl read) = inl read
earlier s (inr memory) = inr (inl memory)

as_either : {F I : Type 0} (s : Status) → IsEarly F s → IsEarly (F ⊎ I) s
as_either s (inl read) = inl (read.0, inl read.1)
as_either s (inr memory) = inr memory

earlier_lines : {Failed : Type 0} (past : Option Over) (s : Status) → IsEarly Failed s → ShowsLines Failed s past
earlier_lines None s early = earlier s early
earlier_lines (Some over) s early = earlier s early

pub earlier_input : {Failed : Type 0} (form : Form) (g : NamedGraph) (left : Option (List ℕ)) (s : Status) →
    IsEarly Failed s → IfSome left (ShowsInput Failed form s g)
earlier_input form g None s early = tt
earlier_input form g (Some input) s early = (
  (λ many. earlier s early),
  (λ few. earlier_lines (over_in SHIPPED g form input) s early),
)

earlier_store : {Failed : Type 0} (s : Status) (told : Option Stored) (name : List ℕ) (Then : NamedGraph → Type 0) →
    IsEarly Failed s → ((g : NamedGraph) → Then g) → ShowsStore Failed s told name Then
earlier_store {Failed} s told name Then early then_shown = by told
  where
    of_file : (o : Option (List ℕ)) → MatchOption o (OrEarlier Failed s (s ≡ status.NoGraphFile))
        (λ file. ShowsFile Failed s file Then)
    of_file None = earlier s early
    of_file (Some file) = record {
      long = λ many. earlier s early;
      faulty = λ short fault has. earlier s early;
      graph = λ short g text. then_shown g;
    }

    by : (files : Option Stored) → ShowsStore Failed s files name Then
    by None = tt
    by (Some files) = of_file (file_of files name)

pub earlier_first : (F I : Type 0) (call : Call) (told : Option Stored) (left : Option (List ℕ)) (s : Status) →
    OfNaming call (λ name. Unit {0}) → IsEarly F s → IsFirstShown call told left F I s
earlier_first F I (serve served) told left s names early =
    earlier_store s told served.name (λ g. IfSome left (ShowsInput (F ⊎ I) served.form s g)) early
    (λ g. earlier_input served.form g left s (as_either s early))
earlier_first F I (print name) told left s names early =
    earlier_store s told name (λ g. OrEarlier F s (IsWritten s)) early (λ g. earlier s early)
earlier_first F I (load commands) told left s names early = absurd names

-- ---- no graph was read

module _ (F R I O : Type 0) (call : Call) (name : List ℕ) (told : Option Stored) (left : Option (List ℕ)) where
  abbrev Fails : Status → Type 0
  Fails = FailsWith told name F R

  without_length : (P Q : List ℕ → Type 0) (o : Option Stored) →
      IfSome o (λ files. (bytes : List ℕ) × (file_of files name ≡ Some bytes) × P bytes × Q bytes) →
      IfSome o (λ files. (bytes : List ℕ) × (file_of files name ≡ Some bytes) × Q bytes)
  without_length P Q None h = tt
  without_length P Q (Some files) (bytes, at, p, q) = (bytes, at, q)

  pub fails_cause : ((P : List ℕ → Type 0) → P name → OfNaming call P) → (s : Status) → Fails s →
      HasCause call told left F R I O s
  fails_cause names status.Ok h = absurd h
  fails_cause names status.Usage h = absurd h
  fails_cause names status.Write h = absurd h
  fails_cause names status.Read h = inl (names (λ n. F) h)
  fails_cause names status.Memory h = tt
  fails_cause names (status.Graph fault) h =
      names (λ n. IsOfFile fault × IfSome (told_file told n) (λ file. IsFirstFault file fault)) (
        h.0,
        told_holds told name (λ file. IsFirstFault file fault)
            (without_length (λ bytes. length bytes ≤ MOST_FILE_BYTES) (λ bytes. IsFirstFault bytes fault) told h.1),
      )
  fails_cause names (status.Limit limited) h = inl
      (names (λ n. (limited ≡ past_graph) × R × IfSome (told_file told n) (λ file. MOST_FILE_BYTES < length file)) (
        h.0,
        h.1,
        told_holds told name (λ file. MOST_FILE_BYTES < length file) h.2,
      ))
  fails_cause names status.NoGraphFile h = names (λ n. R × IfSome told (λ files. file_of files n ≡ None)) h

  -- the file is no graph's, so nothing is shown behind it
  of_no_graph : (s : Status) (Then : NamedGraph → Type 0) → Fails s →
      (IsEarly F s → ShowsStore F s told name Then) → ShowsStore F s told name Then
  of_no_graph status.Ok Then h early = absurd h
  of_no_graph status.Usage Then h early = absurd h
  of_no_graph status.Write Then h early = absurd h
  of_no_graph status.Read Then h early = early (inl (refl, h))
  of_no_graph status.Memory Then h early = early (inr refl)
  of_no_graph (status.Graph fault) Then h early = by told h.1
    where
      by : (files : Option Stored) →
          IfSome files (λ files. (bytes : List ℕ) × (file_of files name ≡ Some bytes)
          × (length bytes ≤ MOST_FILE_BYTES) × IsFirstFault bytes fault) →
          ShowsStore F (status.Graph fault) files name Then
      by None g = tt
      by (Some files) (bytes, at, few, first) =
          subst (λ (o : Option (List ℕ)). MatchOption o (OrEarlier F (status.Graph fault)
          (status.Graph fault ≡ status.NoGraphFile)) (λ file. ShowsFile F (status.Graph fault) file Then))
          (sym at) (record {
            long = λ many. absurd (omega arith);
            faulty = λ short other too. inr (inr (fault, (first, h.0), refl));
            graph = λ short g text. absurd (h.0.plain (no_fault_told bytes g fault text first));
          })
  of_no_graph (status.Limit limited) Then h early = by told h.2
    where
      by : (files : Option Stored) → IfSome files
          (λ files. (bytes : List ℕ) × (file_of files name ≡ Some bytes) × (MOST_FILE_BYTES < length bytes)) →
          ShowsStore F (status.Limit limited) files name Then
      by None g = tt
      by (Some files) (bytes, at, many) =
          subst (λ (o : Option (List ℕ)). MatchOption o (OrEarlier F (status.Limit limited)
          (status.Limit limited ≡ status.NoGraphFile)) (λ file. ShowsFile F (status.Limit limited) file Then))
          (sym at) (record {
            long = λ more. inr (inr (ap status.Limit h.0));
            faulty = λ short fault has. absurd (omega arith);
            graph = λ short g text. absurd (omega arith);
          })
  of_no_graph status.NoGraphFile Then h early = by told h.1
    where
      by : (files : Option Stored) → IfSome files (λ files. file_of files name ≡ None) →
          ShowsStore F status.NoGraphFile files name Then
      by None g = tt
      by (Some files) none =
          subst (λ (o : Option (List ℕ)). MatchOption o (OrEarlier F status.NoGraphFile
          (status.NoGraphFile ≡ status.NoGraphFile)) (λ file. ShowsFile F status.NoGraphFile file Then))
          (sym none) (inr (inr refl))

-- what is shown where no graph was read
pub fails_first : (F R I : Type 0) (call : Call) (told : Option Stored) (left : Option (List ℕ)) (s : Status) →
    OfNaming call (λ name. FailsWith told name F R s) → IsFirstShown call told left F I s
fails_first F R I (serve served) told left s h =
    of_no_graph F R I ⊥ (serve served) served.name told left s (λ g. IfSome left (ShowsInput (F ⊎ I) served.form s g)) h
    (earlier_first F I (serve served) told left s tt)
fails_first F R I (print name) told left s h =
    of_no_graph F R I ⊥ (print name) name told left s (λ g. OrEarlier F s (IsWritten s)) h
    (earlier_first F I (print name) told left s tt)
fails_first F R I (load commands) told left s h = absurd h

-- ---- a graph was read

module _ (F : Type 0) (told : Option Stored) (name : List ℕ) (bytes : List ℕ) (told_bytes : Known told name bytes)
    (g : NamedGraph) (text : IsGraphText bytes g) where
  -- what is shown after the file's graph
  pub shows_then : (s : Status) (Then : NamedGraph → Type 0) → Then g → ShowsStore F s told name Then
  shows_then s Then then_shown = by told told_bytes
    where
      file : length bytes ≤ MOST_FILE_BYTES → ShowsFile F s bytes Then
      file few = record {
        long = λ many. absurd (omega arith);
        faulty = λ short fault has. absurd (has.1.plain (no_fault_told bytes g fault text has.0));
        graph = λ short other same. subst Then (one_graph_told bytes g other text same) then_shown;
      }

      by : (files : Option Stored) → Known files name bytes → ShowsStore F s files name Then
      by None is = tt
      by (Some files) is = subst (λ (o : Option (List ℕ)). MatchOption o (OrEarlier F s (s ≡ status.NoGraphFile))
          (λ file. ShowsFile F s file Then)) (sym is.0) (file is.1)

  -- what holds of the bytes that were read holds of the told file
  pub where_file : (P : List ℕ → Type 0) → P bytes → IfSome (told_file told name) P
  where_file P p = by told told_bytes
    where
      by : (files : Option Stored) → Known files name bytes → IfSome (told_file files name) P
      by None h = tt
      by (Some files) h = subst (λ (o : Option (List ℕ)). IfSome o P) (sym h.0) p

  -- and of the told ones
  pub where_both : (left : Option (List ℕ)) (input : List ℕ) (P : List ℕ → List ℕ → Type 0) → IfSome left
      (λ lines. input ≡ lines) → P bytes input →
      IfSome (told_file told name) (λ file. IfSome left (P file))
  where_both left input P is p = where_file (λ file. IfSome left (P file)) (of_input left is)
    where
      of_input : (o : Option (List ℕ)) → IfSome o (λ lines. input ≡ lines) → IfSome o (P bytes)
      of_input None h = tt
      of_input (Some lines) h = subst (P bytes) h p

-- ---- what the input shows

module _ (Failed : Type 0) (form : Form) (g : NamedGraph) where
  -- it is too long
  pub long_shown : (left : Option (List ℕ)) → IfSome left (λ input. MOST_FILE_BYTES < length input) → IfSome left
      (ShowsInput Failed form long_input g)
  long_shown None h = tt
  long_shown (Some input) h = ((λ many. inr (inr refl)), (λ few. absurd (omega arith)))

  lines_shown : (left : Option (List ℕ)) (input : List ℕ) (s : Status) → length input ≤ MOST_FILE_BYTES →
      IfSome left (λ lines. input ≡ lines) → ShowsLines Failed s (over_in SHIPPED g form input) → IfSome left
      (ShowsInput Failed form s g)
  lines_shown None input s few is shown = tt
  lines_shown (Some lines) input s few is shown = (
    (λ many. absurd (let same : length input ≡ length lines = ap length is in omega arith)),
    (λ short. subst (λ (i : List ℕ). ShowsLines Failed s (over_in SHIPPED g form i)) is shown),
  )

  -- no line is past a limit
  pub written_shown : (left : Option (List ℕ)) (input : List ℕ) (s : Status) → length input ≤ MOST_FILE_BYTES →
      IfSome left (λ lines. input ≡ lines) → over_in SHIPPED g form input ≡ None → IsWritten s → IfSome left
      (ShowsInput Failed form s g)
  written_shown left input s few is within ends = lines_shown left input s few is
      (subst (ShowsLines Failed s) (sym within) (inr (inr ends)))

  -- this line is
  pub over_shown : (left : Option (List ℕ)) (input : List ℕ) (over : Over) → length input ≤ MOST_FILE_BYTES →
      IfSome left (λ lines. input ≡ lines) → over_in SHIPPED g form input ≡ Some over → IfSome left
      (ShowsInput Failed form (limit_of over) g)
  over_shown left input over few is past = lines_shown left input (limit_of over) few is
      (subst (ShowsLines Failed (limit_of over)) (sym past) (inr (inr refl)))

  -- of the limits that the input alone tells, the line is the first past one
  pub size_shown : (left : Option (List ℕ)) (input : List ℕ) (over : Over) →
      IfSome left (λ lines. input ≡ lines) → over_in SHIPPED g form input ≡ Some over → IsTrue (is_by_size over) →
      IfSome left (λ lines. over_size_in SHIPPED lines ≡ Some over)
  size_shown None input over is past by_size = tt
  size_shown (Some lines) input over is past by_size = subst (λ (i : List ℕ). over_size_in SHIPPED i ≡ Some over) is
      (size_told SHIPPED g form input over by_size past)

-- a line past a limit is the cause of the answer that tells it
pub over_cause : (F R I O : Type 0) (served : Served) (told : Option Stored) (left : Option (List ℕ)) (over : Over) →
    (IsTrue (is_by_size over) → IfSome left (λ input. over_size_in SHIPPED input ≡ Some over)) →
    IfSome (told_file told served.name) (λ file. IfSome left (λ input. IsPastLimit served.form file input over)) →
    HasCause (serve served) told left F R I O (limit_of over)
over_cause F R I O served told left (over_at.Lines line) size past = inr (inr (over_at.Lines line, refl, size, past))
over_cause F R I O served told left (over_at.LineBytes line) size past = inr
    (inr (over_at.LineBytes line, refl, size, past))
over_cause F R I O served told left (over_at.Clients line) size past = inr
    (inr (over_at.Clients line, refl, size, past))
over_cause F R I O served told left (over_at.Barred line) size past = inr (inr (over_at.Barred line, refl, size, past))

-- ---- what was written

-- a front of the text was appended
pub front_of : (old new : Option (List ℕ)) (before now : Option ℕ) (text : List ℕ) (P : List ℕ → Type 0) →
    TakesFront old new before now text → P text → AppendsFrontOfSome old new P
front_of old new before now text P front p = (front.front, front.rest, subst P front.whole p, front.appended)

-- the text fits the room, so the output has no fault
pub no_fault : (A : Type 0) (room : Option ℕ) (length_of before now : ℕ) (Each : ℕ → Type 0) →
    ((r : ℕ) → Each r → length_of ≤ r) →
    IfSome room (λ r. length_of ≤ r → A × (now ≡ before)) → IfSome room (λ r. Each r → now ≡ before)
no_fault A None n before now Each within fits = tt
no_fault A (Some r) n before now Each within fits = λ each. (fits (within r each)).1

-- ---- completeness

left_over : {A B C D : Type 0} → (A → ⊥) → (D → ⊥) → A ⊎ (B ⊎ (C ⊎ D)) → C ⊎ B
left_over no_a no_d (inl a) = absurd (no_a a)
left_over no_a no_d (inr (inl b)) = inr b
left_over no_a no_d (inr (inr (inl c))) = inl c
left_over no_a no_d (inr (inr (inr d))) = absurd (no_d d)

-- what is shown after a graph that is there
after_graph : (F : Type 0) (s : Status) (told : Option Stored) (name : List ℕ) (Then : NamedGraph → Type 0) →
    ShowsStore F s told name Then → (file : HasGraphFile told name) → Then file.graph
after_graph F s None name Then shows file = absurd (let none : None ≡ Some file.file = file.file-is in cc)
after_graph F s (Some files) name Then shows file =
    let shown : ShowsFile F s file.file Then =
    subst (λ (o : Option (List ℕ)). MatchOption o (OrEarlier F s (s ≡ status.NoGraphFile))
    (λ f. ShowsFile F s f Then)) file.file-is shows in
    shown.graph file.short file.graph file.graph-is

no_write : (F R I O : Type 0) (call : Call) (told : Option Stored) (left : Option (List ℕ)) (s : Status) →
    HasCause call told left F R I O s → (O → ⊥) → s ≡ status.Write → ⊥
no_write F R I O call told left s cause well is = well (subst (HasCause call told left F R I O) is cause)

-- a call that answers no lines reads no input
pub reads_none : (name : List ℕ) (told : Option Stored) (left left' : Option (List ℕ)) (F R I I' O : Type 0)
    (s : Status) →
    HasCause (print name) told left F R I O s → HasCause (print name) told left' F R I' O s
reads_none name told left left' F R I I' O status.Ok h = h
reads_none name told left left' F R I I' O status.Usage h = h
reads_none name told left left' F R I I' O (status.Graph fault) h = h
reads_none name told left left' F R I I' O status.Read h = h
reads_none name told left left' F R I I' O status.Write h = h
reads_none name told left left' F R I I' O status.Memory h = h
reads_none name told left left' F R I I' O (status.Limit limited) h = h
reads_none name told left left' F R I I' O status.NoGraphFile h = h

-- a call that reads no file and no input rests on the output alone
pub rests_on_output : (commands : ℕ) (told : Option Stored) (left : Option (List ℕ)) (F R I O : Type 0) (s : Status) →
    HasCause (load commands) None None ⊥ ⊥ ⊥ O s → HasCause (load commands) told left F R I O s
rests_on_output commands told left F R I O status.Ok h = h
rests_on_output commands told left F R I O status.Usage h = h
rests_on_output commands told left F R I O (status.Graph fault) h = h
rests_on_output commands told left F R I O status.Read h = h
rests_on_output commands told left F R I O status.Write h = h
rests_on_output commands told left F R I O status.Memory h = h
rests_on_output commands told left F R I O (status.Limit limited) h = h
rests_on_output commands told left F R I O status.NoGraphFile h = h

pub completes : (F R I O : Type 0) (call : Call) (told : Option Stored) (left : Option (List ℕ)) (s : Status) →
    HasCause call told left F R I O s →
    IsFirstShown call told left F I s → IsInOrder call told left → (OfNaming call (λ name. F) → ⊥) →
    (OfServing call (λ served. I) → ⊥) → (O → ⊥) → (s ≡ status.Ok) ⊎ (s ≡ status.Memory)
completes F R I O (serve served) told left s cause first (file, lines) no_files no_input no_out =
    let input : ShowsInput (F ⊎ I) served.form s file.graph lines.input =
    subst (λ (o : Option (List ℕ)). IfSome o (ShowsInput (F ⊎ I) served.form s file.graph)) lines.input-is
    (after_graph F s told served.name (λ g. IfSome left (ShowsInput (F ⊎ I) served.form s g)) first file) in
    left_over (λ failed. elim failed.1 [ inl f ↦ no_files f | inr i ↦ no_input i ])
    (no_write F R I O (serve served) told left s cause no_out)
    (subst (ShowsLines (F ⊎ I) s) lines.within (input.1 lines.short))
completes F R I O (print name) told left s cause first file no_files no_input no_out =
    left_over (λ failed. no_files failed.1) (no_write F R I O (print name) told left s cause no_out)
    (after_graph F s told name (λ g. OrEarlier F s (IsWritten s)) first file)
completes F R I O (load commands) told left s cause first order no_files no_input no_out =
    left_over (λ failed. failed.1) (no_write F R I O (load commands) told left s cause no_out) first
