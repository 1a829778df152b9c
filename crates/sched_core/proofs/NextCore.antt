-- What is kept after one entry more.
use Rattle.std.proofs.Common.{◌≡◌, List, [], ◌∷◌, ◌++◌, sym, ◌∙◌, ap, subst}
use Rattle.flux_defs.specs.declared.journal.Entry.{Entry}
use Rattle.flux_defs.specs.Scheduler.{Setting, IsProper, Replies, after, first_state}
use Rattle.flux_defs.specs.Histories.{IsLegal, HasProperCommands}
use Rattle.list_laws.proofs.Lists.{all_append}
use Rattle.book_state.specs.Books.{HaveOneSetting}
use Rattle.sched_core.specs.declared.held.Site.{Site}
use Rattle.sched_core.specs.declared.held.Kept.{Kept}
use Rattle.sched_core.specs.Courses.{left_by, graph_at, vertices_at, journal_in, setting_of, setting_in, IsBookOf}
use Rattle.sched_core.specs.Courses.{IsCore, Grows}
use Rattle.sched_core.specs.Answered.{MayFollow, HasRoom}
use Rattle.sched_core.proofs.Grown.{left_snoc, legal_snoc}
use Rattle.sched_core.proofs.Accepting.{owed}

module _ (site : Site) (kept : Kept) (core : IsCore site kept) (entry : Entry)
    (proper : IsProper (vertices_at site) entry.command)
    (replies : Replies (setting_in site kept) (left_by (journal_in kept)) entry.command entry.reply) where
  pub owed_here : MayFollow kept.book (left_by (journal_in kept)) entry.command entry.reply
      × HasRoom site.claim_limit (left_by (journal_in kept)).claim_count entry.reply
  owed_here =
      owed (setting_in site kept) (graph_at site).names core.whole.valid (journal_in kept) (left_by (journal_in kept))
      kept.book core.book-of (ap (λ n. n.resources.vertices) core.graph-is) core.horizon-is
      entry.command entry.reply proper replies

  pub grows : (next : Kept) → HaveOneSetting kept.book next.book → IsBookOf (journal_in kept ++ entry ∷ []) next.book →
      journal_in next ≡ journal_in kept ++ entry ∷ [] →
      next.claim_count ≡ (after (left_by (journal_in kept)) entry.command entry.reply).claim_count →
      Grows site kept next entry
  grows next keeps of journal claims =
      let setting : setting_in site next ≡ setting_in site kept =
      ap (λ rules. setting_of (graph_at site).resources rules site.horizon site.claim_limit) keeps.rules in
      record {
        setting = setting;
        journal = journal;
        core = record {
          whole = core.whole;
          graph-is = keeps.graph ∙ core.graph-is;
          horizon-is = keeps.horizon ∙ core.horizon-is;
          legal = subst (λ (g : Setting). IsLegal g (journal_in next)) (sym setting)
              (subst (λ (j : List Entry). IsLegal (setting_in site kept) j) (sym journal)
              (legal_snoc (setting_in site kept) first_state (journal_in kept) entry core.legal replies));
          proper = subst (λ (j : List Entry). HasProperCommands (vertices_at site) j) (sym journal)
              (all_append (λ e. IsProper (vertices_at site) e.command) (journal_in kept) (entry ∷ []) core.proper
              (proper, tt));
          book-of = subst (λ (j : List Entry). IsBookOf j next.book) (sym journal) of;
          claims-are = claims ∙ sym (ap (λ s. s.claim_count) (left_snoc (journal_in kept) entry))
              ∙ ap (λ j. (left_by j).claim_count) (sym journal);
        };
      }
