-- What is left where a book is given up, and what it is made of again.
use Rattle.std.proofs.Common.{◌≡◌, ℕ, zero, suc, ◌+◌, List, [], ◌∷◌, ◌++◌, take, slice_get, Some, sym, ◌∙◌, ap, subst}
use Rattle.std.proofs.lemmas.Option.{same_Some}
use Rattle.flux_defs.specs.declared.journal.Command.{Command}
use Rattle.flux_defs.specs.declared.journal.Entry.{Entry}
use Rattle.flux_defs.specs.Scheduler.{Setting, State, first_state, IsProper, Replies, after}
use Rattle.flux_defs.specs.Histories.{state_after, IsLegalFrom, IsLegal, HasProperCommands}
use Rattle.flux_defs.specs.Sound.{IsSound, IsSoundThroughout}
use Rattle.list_laws.proofs.Lists.{all_at, take_next}
use Rattle.book_state.specs.Books.{moment_of}
use Rattle.book_state.specs.Frames.{IsFrameOf}
use Rattle.sched_core.specs.declared.held.Site.{Site}
use Rattle.sched_core.specs.declared.held.Kept.{Kept}
use Rattle.sched_core.specs.declared.held.Remains.{Remains}
use Rattle.sched_core.specs.declared.held.Keeping.TheVariants as keeping
use Rattle.sched_core.specs.Courses.{Course, left_by, graph_at, vertices_at, journal_in, setting_of, setting_in}
use Rattle.sched_core.specs.Courses.{setting_left, course_in, IsCore, IsLeft, IsMadeTo, Stays, Grows, Decides}
use Rattle.sched_core.specs.Answered.{IsDecided}

-- courses of one setting and one journal are the same
pub same_course : (g h : Setting) (i j : List Entry) → g ≡ h → i ≡ j →
    ◌≡◌ {A = Course} (record { setting = g; journal = i }) (record { setting = h; journal = j })
same_course g h i j e f = cc

-- what is left stands for the same
pub left_stays : (site : Site) (kept : Kept) → IsCore site kept → (left : Remains) → IsFrameOf kept.book left.frame →
    left.journal ≡ journal_in kept → left.moment ≡ moment_of kept.book → left.claim_count ≡ kept.claim_count →
    Stays site kept (keeping.Remains left)
left_stays site kept core left frame journal moment claims =
    let setting : setting_left site left ≡ setting_in site kept =
    ap (λ rules. setting_of (graph_at site).resources rules site.horizon site.claim_limit) frame.rules in
    record {
      in-order = record {
        whole = core.whole;
        graph-is = frame.graph ∙ core.graph-is;
        horizon-is = frame.horizon ∙ core.horizon-is;
        legal = subst (λ (g : Setting). IsLegal g left.journal) (sym setting)
            (subst (λ (j : List Entry). IsLegal (setting_in site kept) j) (sym journal) core.legal);
        proper = subst (λ (j : List Entry). HasProperCommands (vertices_at site) j) (sym journal) core.proper;
        moment-is = moment ∙ core.book-of.moment ∙ ap (λ j. (left_by j).moment) (sym journal);
        claims-are = claims ∙ core.claims-are ∙ ap (λ j. (left_by j).claim_count) (sym journal);
      };
      course = same_course (setting_left site left) (setting_in site kept) left.journal (journal_in kept) setting
          journal;
    }

-- a reply within a legal history is the one in the state that the entries before it leave
legal_at : (g : Setting) (s : State) (history : List Entry) (at : ℕ) (e : Entry) → IsLegalFrom g s history →
    slice_get history at ≡ Some e → Replies g (state_after s (take at history)) e.command e.reply
legal_at g s [] at e legal there = absurd (cc)
legal_at g s (x ∷ xs) zero e legal there =
    subst (λ (y : Entry). Replies g s y.command y.reply) (same_Some x e there) legal.0
legal_at g s (x ∷ xs) (suc at) e legal there = legal_at g (after s x.command x.reply) xs at e legal.1 there

module _ (site : Site) (left : Remains) (is : IsLeft site left) (at : ℕ) (kept : Kept)
    (made : IsMadeTo site left at kept) (e : Entry) (there : slice_get left.journal at ≡ Some e) where
  pub proper_next : IsProper (vertices_at site) e.command
  proper_next = all_at (λ (x : Entry). IsProper (vertices_at site) x.command) left.journal at e is.proper there

  pub replies_next : Replies (setting_in site kept) (left_by (journal_in kept)) e.command e.reply
  replies_next =
      subst (λ (g : Setting). Replies g (left_by (journal_in kept)) e.command e.reply) (sym made.setting)
      (subst (λ (j : List Entry). Replies (setting_left site left) (left_by j) e.command e.reply) (sym made.journal)
      (legal_at (setting_left site left) first_state left.journal at e is.legal there))

  pub made_next : (next : Kept) → Grows site kept next e → IsMadeTo site left (at + 1) next
  made_next next grows = record {
    core = grows.core;
    setting = grows.setting ∙ made.setting;
    journal = grows.journal ∙ ap (λ j. j ++ e ∷ []) made.journal ∙ sym (take_next left.journal at e there);
  }

-- one entry more, as it is seen
pub decided_course : (site : Site) (kept next : Kept) (client line : ℕ) (command : Command) →
    Decides site kept next client line command → (x : Course) → course_in site kept ≡ x →
    IsDecided x (course_in site next) client line command
decided_course site kept next client line command decides x seen =
    subst (λ (y : Course). IsDecided y (course_in site next) client line command) seen
    (record {
      setting = decides.grows.setting;
      answer = decides.answer;
      replies = decides.replies;
      journal = decides.grows.journal;
    })
