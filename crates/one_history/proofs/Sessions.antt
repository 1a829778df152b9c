-- Sessions at a book: dealt, served, and taken in again.
use Rattle.std.proofs.Common.{◌≡◌, ℕ, suc, ◌+◌, ◌≤◌, ◌<◌, ◌||◌, Bool, true, false, List, [], ◌∷◌, ◌++◌, All, length}
use Rattle.std.proofs.Common.{map, get_or, take, refl, sym, ap, ◌∙◌, subst, arith, append_assoc, append-nil}
use Rattle.std.proofs.Common.{length-append, slice_get, Some}
use Rattle.std.specs.List.{AllByRecursion, list_any, range_with_len, sum_by}
use Rattle.std.proofs.Math.Seq.{take-length}
use Rattle.std.proofs.lemmas.List.Elements.{All-nil, All-cons, All-pop, All-from_recursion}
use Rattle.std.proofs.lemmas.List.Sums.{sum_by-cons}
use Rattle.std.proofs.lemmas.Option.{slice_get_within}
use Rattle.std.proofs.lemmas.Bool.{or_parts}
use mathlib.Core.List.{IsPrefix}
use base.Growing.{prefix_trans}
use Rattle.list_laws.proofs.Lists.{prefix_length}
use Rattle.flux_defs.specs.declared.journal.Command.{Command}
use Rattle.flux_defs.specs.declared.journal.Entry.{Entry}
use Rattle.flux_defs.specs.declared.journal.Line.{Line}
use Rattle.flux_defs.specs.declared.journal.Script.{Script}
use Rattle.flux_defs.specs.declared.vertices.Vertex.{Vertex}
use Rattle.flux_defs.specs.Histories.{IsLegal}
use Rattle.flux_defs.specs.Placed.{line_at}
use Rattle.flux_defs.specs.Scheduler.{Setting, IsProper}
use Rattle.flux_defs.specs.Sound.{IsSoundThroughout}
use Rattle.sched_core.specs.Courses.{Course}
use Rattle.turn_table.specs.Positions.{times}
use Rattle.turn_table.specs.Seats.{seen, mine, share}
use Rattle.turn_table.proofs.Positions.{times_within}
use Rattle.match_workers.specs.Served.{RiseWithin, some_line, CanBegin, IsServed}
use Rattle.match_workers.proofs.Gaining.{same_lines}
use Rattle.commit_book.specs.declared.books.Book.{Book}
use Rattle.commit_book.specs.Books.{SeatAtBook, book_setting, IsSeatOf}
use Rattle.one_history.specs.Dealt.{Sitting, HasOneShare, IsDealt, AreDealt}
use Rattle.one_history.specs.Together.{NumbersApart, IsPlayedTogether}
use Rattle.one_history.proofs.Parts.{AreTold, parts_are, some_client}
use Rattle.one_history.proofs.Interleaved.{all_answer, interleaves, alone}

-- ---- dealt

dealt_length : (book : Book) (n : ℕ) (lss : List (List Line)) (ss : List Sitting) →
    AreDealt book n lss ss → length ss ≡ length lss
dealt_length book n [] [] d = refl
dealt_length book n [] (s ∷ ss) d = absurd d
dealt_length book n (ls ∷ lss) [] d = absurd d
dealt_length book n (ls ∷ lss) (s ∷ ss) d = ap suc (dealt_length book (n + 1) lss ss d.1)

dealt_more : (book : Book) (n : ℕ) (lss : List (List Line)) (ss : List Sitting) (ls : List Line) (s : Sitting)
    → AreDealt book n lss ss → IsDealt book (n + length lss) ls s → AreDealt book n (lss ++ ls ∷ []) (ss ++ s ∷ [])
dealt_more book n [] [] ls s d new =
    (subst (λ c. IsDealt book c ls s) (let same : n + 0 ≡ n = omega arith in same) new, tt)
dealt_more book n [] (x ∷ ss) ls s d new = absurd d
dealt_more book n (xs ∷ lss) [] ls s d new = absurd d
dealt_more book n (xs ∷ lss) (x ∷ ss) ls s d new =
    let c : n + suc (length lss) ≡ (n + 1) + length lss = omega arith in
    (d.0, dealt_more book (n + 1) lss ss ls s d.1 (subst (λ c. IsDealt book c ls s) c new))

-- what stands while the sessions are dealt: to so many clients
pub record Dealing (book : Book) (seat₀ seat : SeatAtBook) (lss : List (List Line)) (ss : List Sitting) : Type 0 where
  pub own : IsSeatOf book seat
  pub dealt : AreDealt book 0 lss ss
  pub same : mine seat ≡ mine seat₀
  pub shares : share seat + length ss ≡ share seat₀
  pub many : length ss ≡ length lss

module _ (book : Book) (seat₀ : SeatAtBook) where
  pub deals_none : IsSeatOf book seat₀ → Dealing book seat₀ seat₀ [] []
  deals_none own = record { own = own; dealt = tt; same = refl; shares = omega arith; many = refl }

  pub deals_one : (seat seat' : SeatAtBook) (lss : List (List Line)) (ss : List Sitting) (ls : List Line) (s : Sitting)
      → Dealing book seat₀ seat lss ss → IsDealt book (length ss) ls s → IsSeatOf book seat' → mine seat' ≡ mine seat
      → share seat' + 1 ≡ share seat → Dealing book seat₀ seat' (lss ++ ls ∷ []) (ss ++ s ∷ [])
  deals_one seat seat' lss ss ls s so new own same shares =
      let n : length ss ≡ 0 + length lss = let m = so.many in omega arith in
      let more = length-append ss (s ∷ []) in
      let more' = length-append lss (ls ∷ []) in record {
        own = own;
        dealt = dealt_more book 0 lss ss ls s so.dealt (subst (λ c. IsDealt book c ls s) n new);
        same = same ∙ so.same;
        shares = let w = so.shares in omega arith;
        many = let m = so.many in omega arith;
      }

-- a session that was dealt may begin
begins_each : (book : Book) (vertices : List Vertex) → (book_setting book).graph.vertices ≡ vertices → (n : ℕ)
    (lss : List (List Line)) (ss : List Sitting) → AreDealt book n lss ss
    → AllByRecursion (λ lines. AllByRecursion (λ (l : Line). IsProper vertices l.command) lines) lss
    → AllByRecursion (CanBegin (λ (b : Book) (s : SeatAtBook). IsSeatOf b s)
    (λ (b : Book) (c : Command). IsProper (book_setting b).graph.vertices c) book) ss
begins_each book vertices over n [] [] d proper = tt
begins_each book vertices over n [] (s ∷ ss) d proper = absurd d
begins_each book vertices over n (ls ∷ lss) [] d proper = tt
begins_each book vertices over n (ls ∷ lss) (s ∷ ss) d proper = (
  record {
    seat = d.0.own.0;
    commands = subst (λ (xs : List Line). All (λ (l : Line). IsProper (book_setting book).graph.vertices l.command) xs)
        (sym d.0.lines-are)
        (subst (λ (v : List Vertex). All (λ (l : Line). IsProper v l.command) ls) (sym over)
        (All-from_recursion (λ (l : Line). IsProper vertices l.command) ls proper.0));
    done = d.0.done;
    going = d.0.going;
  },
  begins_each book vertices over (n + 1) lss ss d.1 proper.1,
)

pub may_begin : (book : Book) (vertices : List Vertex) → (book_setting book).graph.vertices ≡ vertices
    → (lss : List (List Line)) (ss : List Sitting) → AreDealt book 0 lss ss
    → AllByRecursion (λ lines. AllByRecursion (λ (l : Line). IsProper vertices l.command) lines) lss
    → All (CanBegin (λ (b : Book) (s : SeatAtBook). IsSeatOf b s)
    (λ (b : Book) (c : Command). IsProper (book_setting b).graph.vertices c) book) ss
may_begin book vertices over lss ss d proper =
    All-from_recursion _ ss (begins_each book vertices over 0 lss ss d proper)

-- ---- served

-- each session was served
abbrev pub AreServed : Book → List Sitting → List Sitting → Type 0
AreServed book ss ss' = (i : ℕ) (s : Sitting) → i < length ss →
    IsServed (λ (b : Book) (x : SeatAtBook). IsSeatOf b x) (λ (x : SeatAtBook). seen x) (λ (x : SeatAtBook). mine x)
    (λ (x : SeatAtBook). share x) book (get_or ss i s) (get_or ss' i s)

shared_each : (book : Book) (n : ℕ) (lss : List (List Line)) (ss ss' : List Sitting) → AreDealt book n lss ss
    → length ss' ≡ length ss → AreServed book ss ss' → AllByRecursion (HasOneShare book) ss'
shared_each book n lss ss [] d long served = tt
shared_each book n lss [] (s' ∷ ss') d long served = absurd (omega arith)
shared_each book n [] (s ∷ ss) (s' ∷ ss') d long served = absurd d
shared_each book n (ls ∷ lss) (s ∷ ss) (s' ∷ ss') d long served =
    let first = served 0 s (omega arith) in (
      (first.seat, first.part ∙ d.0.own.1),
      shared_each book (n + 1) lss ss ss' d.1 (omega arith) (λ i x l. served (suc i) x (omega arith)),
    )

-- the sessions still have their shares
pub still_shared : (book : Book) (lss : List (List Line)) (ss ss' : List Sitting) → AreDealt book 0 lss ss
    → length ss' ≡ length ss → AreServed book ss ss' → All (HasOneShare book) ss'
still_shared book lss ss ss' d long served =
    All-from_recursion (HasOneShare book) ss' (shared_each book 0 lss ss ss' d long served)

-- ---- taken in

-- what stands while the seats are taken in: those of the last sessions are
pub record Gathering
    (book : Book) (seat₀ : SeatAtBook) (all : List Sitting) (seat : SeatAtBook) (left : List Sitting) : Type 0 where
  pub gone : List Sitting
  pub parts : all ≡ left ++ gone
  pub own : IsSeatOf book seat
  pub theirs : All (HasOneShare book) left
  pub sees : All (λ s. IsPrefix (seen s.seat) (seen seat)) gone
  pub counts : (p : ℕ) → times p (mine seat) ≡ times p (mine seat₀) + sum_by (λ s. times p (mine s.seat)) gone
  pub weighs : share seat ≡ share seat₀ + length gone

module _ (book : Book) (seat₀ : SeatAtBook) (all : List Sitting) where
  pub gathers_none : IsSeatOf book seat₀ → All (HasOneShare book) all → Gathering book seat₀ all seat₀ all
  gathers_none own theirs = record {
    gone = [];
    parts = sym (append-nil all);
    own = own;
    theirs = theirs;
    sees = All-nil (λ s. IsPrefix (seen s.seat) (seen seat₀));
    counts = λ p. omega arith;
    weighs = omega arith;
  }

  pub next_shared : (seat : SeatAtBook) (left left' : List Sitting) (s : Sitting) → Gathering book seat₀ all seat left
      → left ≡ left' ++ s ∷ [] → HasOneShare book s
  next_shared seat left left' s g cut = (All-pop (HasOneShare book) left left' (Some s) cut g.theirs).1

  pub gathers_one : (seat seat' : SeatAtBook) (left left' : List Sitting) (s : Sitting) →
      Gathering book seat₀ all seat left
      → left ≡ left' ++ s ∷ [] →
      IsSeatOf book seat' → IsPrefix (seen seat) (seen seat') × IsPrefix (seen s.seat) (seen seat')
      → ((p : ℕ) → times p (mine seat') ≡ times p (mine seat) + times p (mine s.seat))
      → share seat' ≡ share seat + share s.seat → Gathering book seat₀ all seat' left'
  gathers_one seat seat' left left' s g cut own sees mines shares = record {
    gone = s ∷ g.gone;
    parts = g.parts ∙ (ap (λ l. l ++ g.gone) cut ∙ append_assoc left' (s ∷ []) g.gone);
    own = own;
    theirs = (All-pop (HasOneShare book) left left' (Some s) cut g.theirs).0;
    sees = All-cons (λ (x : Sitting). IsPrefix (seen x.seat) (seen seat')) s g.gone sees.1
        (λ i d l. prefix_trans (seen (get_or g.gone i d).seat) (seen seat) (seen seat') (g.sees i d l) sees.0);
    counts = λ p.
        let h = g.counts p in
        let m = mines p in
        let more = sum_by-cons (λ (x : Sitting). times p (mine x.seat)) s g.gone in omega arith;
    weighs = let w = g.weighs in let one = (next_shared seat left left' s g cut).1 in omega arith;
  }

  gathered : (seat : SeatAtBook) (left : List Sitting) →
      Gathering book seat₀ all seat left → left ≡ [] → (g : List Sitting)
      × (g ≡ all) × All (λ s. IsPrefix (seen s.seat) (seen seat)) g
      × ((p : ℕ) → times p (mine seat) ≡ times p (mine seat₀) + sum_by (λ s. times p (mine s.seat)) g)
      × (share seat ≡ share seat₀ + length g)
  gathered seat left g none = (g.gone, sym (g.parts ∙ ap (λ l. l ++ g.gone) none), g.sees, g.counts, g.weighs)

  pub gathered_seen : (seat : SeatAtBook) (left : List Sitting) → Gathering book seat₀ all seat left → left ≡ []
      → All (λ s. IsPrefix (seen s.seat) (seen seat)) all
  gathered_seen seat left g none =
      let h = gathered seat left g none in subst (All (λ (s : Sitting). IsPrefix (seen s.seat) (seen seat))) h.1 h.2

  pub gathered_mine : (seat : SeatAtBook) (left : List Sitting) → Gathering book seat₀ all seat left → left ≡ []
      → (p : ℕ) → times p (mine seat) ≡ times p (mine seat₀) + sum_by (λ s. times p (mine s.seat)) all
  gathered_mine seat left g none p =
      let h = gathered seat left g none in
      h.3 p ∙ ap (λ (l : List Sitting). times p (mine seat₀) + sum_by (λ s. times p (mine s.seat)) l) h.1

  pub gathered_share : (seat : SeatAtBook) (left : List Sitting) → Gathering book seat₀ all seat left → left ≡ []
      → share seat ≡ share seat₀ + length all
  gathered_share seat left g none = let h = gathered seat left g none in
      h.4 ∙ ap (λ (l : List Sitting). share seat₀ + length l) h.1

-- ---- what the sessions placed

rise_wider : (lo a b c : ℕ) (xs : List ℕ) → RiseWithin a xs b → lo ≤ a → b ≤ c → RiseWithin lo xs c
rise_wider lo a b c [] r l m = let w = r in omega arith
rise_wider lo a b c (x ∷ xs) r l m = (let q = r.0 in omega arith, rise_wider (x + 1) (x + 1) b c xs r.1 (omega arith) m)

-- a session that didn't stop: all lines of its client stand in the history, at its positions
told_one : (book : Book) (h : List Entry) (n : ℕ) (ls : List Line) (s s' : Sitting) → IsDealt book n ls s
    → IsServed (λ (b : Book) (x : SeatAtBook). IsSeatOf b x) (λ (x : SeatAtBook). seen x) (λ (x : SeatAtBook). mine x)
    (λ (x : SeatAtBook). share x) book s s'
    → s'.stopped ≡ false → IsPrefix (seen s'.seat) h
    → RiseWithin 0 (mine s'.seat) (length h) × (map (line_at h) (mine s'.seat) ≡ map (some_line n) ls)
told_one book h n ls s s' new v going begins =
    let g = v.gains in
    let full : s'.done ≡ length s.lines = whole (s'.done)
    (length s.lines) v.done (λ less. (let bad : false ≡ true = sym going ∙ v.stopped.1 less in absurd cc)) in
    let all : take s'.done s.lines ≡ ls = ap (λ m. take m s.lines) full ∙ (take-length s.lines ∙ new.lines-are) in
    let mines : mine s'.seat ≡ g.gained = g.mine-is ∙ ap (λ l. l ++ g.gained) new.empty in
    let rises : RiseWithin 0 g.gained (length h)
    = rise_wider 0 (length (seen s.seat)) (length (seen s'.seat)) (length h) g.gained g.rising (omega arith)
    (prefix_length (seen s'.seat) h begins) in
    let same : map (line_at h) g.gained ≡ map (line_at (seen s'.seat)) g.gained
    = same_lines (length (seen s.seat)) g.gained (seen s'.seat) h g.rising begins in
    let at : map (line_at h) g.gained ≡ map (some_line n) ls
    = same ∙ (g.answers
    ∙ (ap (λ c. map (some_line c) (take s'.done s.lines)) new.client-is ∙ ap (map (some_line n)) all)) in
    subst (λ (l : List ℕ). RiseWithin 0 l (length h) × (map (line_at h) l ≡ map (some_line n) ls))
    (sym mines) (rises, at)
  where
    whole : (d m : ℕ) → d ≤ m → (d < m → ⊥) → d ≡ m
    whole d m le less = omega (arith, le, less)

abbrev mines_of : List Sitting → List (List ℕ)
mines_of [] = []
mines_of (s ∷ ss) = mine s.seat ∷ mines_of ss

all_told : (book : Book) (h : List Entry) (n : ℕ) (lss : List (List Line)) (ss ss' : List Sitting) →
    AreDealt book n lss ss
    → length ss' ≡ length ss → AreServed book ss ss' → AllByRecursion (λ s. s.stopped ≡ false) ss'
    → All (λ s. IsPrefix (seen s.seat) h) ss' → AreTold h n lss (mines_of ss')
all_told book h n [] [] [] d long served going begins = tt
all_told book h n [] [] (x ∷ ss') d long served going begins = absurd (omega arith)
all_told book h n [] (s ∷ ss) ss' d long served going begins = absurd d
all_told book h n (ls ∷ lss) [] ss' d long served going begins = absurd d
all_told book h n (ls ∷ lss) (s ∷ ss) [] d long served going begins = absurd (omega arith)
all_told book h n (ls ∷ lss) (s ∷ ss) (s' ∷ ss') d long served going begins =
    let one = told_one book h n ls s s' d.0 (served 0 s (omega arith)) going.0 (begins 0 s' (omega arith)) in (
      one.0,
      one.1,
      all_told book h (n + 1) lss ss ss' d.1 (omega arith) (λ i x l. served (suc i) x (omega arith)) going.1
          (λ i x l. begins (suc i) x (omega arith)),
    )

sum_mines : (p : ℕ) (ss : List Sitting) → sum_by (times p) (mines_of ss) ≡ sum_by (λ s. times p (mine s.seat)) ss
sum_mines p [] = refl
sum_mines p (s ∷ ss) =
    let rest = sum_mines p ss in
    let l = sum_by-cons (times p) (mine s.seat) (mines_of ss) in
    let r = sum_by-cons (λ (x : Sitting). times p (mine x.seat)) s ss in omega arith

or_left : (a b : Bool) → (a || b) ≡ false → a ≡ false
or_left false b h = refl
or_left true b h = h

none_stopped : (ss : List Sitting) → list_any (λ s. s.stopped) ss ≡ false → AllByRecursion (λ s. s.stopped ≡ false) ss
none_stopped [] h = tt
none_stopped (s ∷ ss) h = (
  or_left s.stopped (list_any (λ (x : Sitting). x.stopped) ss) h,
  none_stopped ss (or_parts s.stopped (list_any (λ (x : Sitting). x.stopped) ss) h).1,
)

-- ---- the book is closed

module _ (core played : Course) (script : Script) (book : Book) (ss ss' : List Sitting) (seat₀ seat : SeatAtBook)
    (apart : NumbersApart script) (dealt : AreDealt book 0 script.lines ss) (long : length ss' ≡ length ss)
    (served : AreServed book ss ss') (going : list_any (λ s. s.stopped) ss' ≡ false) (empty : mine seat₀ ≡ [])
    (sees : All (λ s. IsPrefix (seen s.seat) (seen seat)) ss')
    (counts : (p : ℕ) → times p (mine seat) ≡ times p (mine seat₀) + sum_by (λ s. times p (mine s.seat)) ss')
    (later : IsPrefix (seen seat) played.journal) (whole : mine seat ≡ range_with_len 0 (length played.journal)) where
  told : AreTold played.journal 0 script.lines (mines_of ss')
  told = all_told book played.journal 0 script.lines ss ss' dealt long served (none_stopped ss' going)
      (λ i d l. prefix_trans (seen (get_or ss' i d).seat) (seen seat) played.journal (sees i d l) later)

  once : (p : ℕ) → p < length played.journal → sum_by (times p) (mines_of ss') ≡ 1
  once p l =
      let c = counts p in
      let none : times p (mine seat₀) ≡ 0 = ap (times p) empty in
      let m = sum_mines p ss' in
      let all : times p (mine seat) ≡ times p (range_with_len 0 (length played.journal)) = ap (times p) whole in
      let one = times_within p 0 (length played.journal) (omega arith) (omega arith) in omega arith

  known : (p : ℕ) (e : Entry) → slice_get played.journal p ≡ Some e → e.client < length script.lines
  known p e at =
      let one = once p (slice_get_within played.journal p e at) in
      let c = some_client played.journal 0 p e script.lines (mines_of ss') told at (omega arith) in omega arith

  pub together : played.setting ≡ core.setting → IsLegal played.setting played.journal
      → IsSoundThroughout played.setting.graph.vertices played.journal → IsPlayedTogether core played script
  together setting legal sound =
      let parts = parts_are played.journal script.lines (mines_of ss') told once in record {
        setting = setting;
        interleaves = interleaves script apart played.journal parts known;
        plays = record {
          lines = refl;
          answers = all_answer script apart played.journal parts known;
          legal = subst (λ (g : Setting). IsLegal g played.journal) setting legal;
        };
        parts = parts;
        alone = alone script apart played.journal parts known;
        sound = subst (λ (g : Setting). IsSoundThroughout g.graph.vertices played.journal) setting sound;
      }
