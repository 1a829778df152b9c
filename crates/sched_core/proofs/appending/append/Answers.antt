use Rattle.std.proofs.Common.{ℕ, ◌++◌, ◌∷◌, [], refl, sym, ◌∙◌, subst, arith}
use Rattle.std.proofs.lemmas.Result.{IfOk-weaker}
use Rattle.flux_defs.specs.declared.journal.Entry.{Entry}
use Rattle.book_state.specs.declared.held.BookState.{BookState}
use Rattle.book_state.specs.Books.{HaveOneSetting}
use Rattle.sched_core.specs.Courses.{left_by, journal_in, IsBookOf}
use Rattle.sched_core.specs.Answered.{HasRoom}
use Rattle.sched_core.proofs.NextCore.{owed_here, grows}
use Rattle.sched_core.proofs.appending.append.Goals as goal

pub follow-requires-clause-may : goal.follow-requires-clause-may
follow-requires-clause-may g c =
    (owed_here c.args.site.now c.args.kept c.requires.core c.args.entry c.requires.proper c.requires.reply).0

pub claims_after-claims-requires : goal.claims_after-claims-requires
claims_after-claims-requires g c =
    let core = c.requires.core in
    record {
      room = subst (λ (n : ℕ). HasRoom c.args.site.now.claim_limit n c.args.entry.reply) (sym core.claims-are)
          (owed_here c.args.site.now c.args.kept core c.args.entry c.requires.proper c.requires.reply).1;
    }

pub returns-clause-ok : goal.returns-clause-ok
returns-clause-ok g c =
    let kept = c.args.kept in
    let core = c.requires.core in
    let entry : Entry = c.args.entry in
    let book = c.in-Ok-follow.ensures in
    IfOk-weaker c.pushed.result _ _ (λ next is.
    grows c.args.site.now kept core entry c.requires.proper c.requires.reply next
    (subst (λ (b : BookState). HaveOneSetting kept.book b) (sym is.1) book.setting)
    (subst (λ (b : BookState). IsBookOf (journal_in kept ++ entry ∷ []) b) (sym is.1) (book.book entry refl refl)) is.0
    (is.2 ∙ c.claims_after-claims.ensures (left_by (journal_in kept)) entry.command (sym core.claims-are)))
    c.pushed.ensures.ok

pub returns-clause-work : goal.returns-clause-work
returns-clause-work g c = λ most adds.
    let changed = c.follow.ensures.work most adds in
    let placed = c.pushed.ensures.work in omega (arith, changed, placed)
