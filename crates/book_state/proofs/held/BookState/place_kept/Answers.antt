use Rattle.std.proofs.Common.{true≢false, sym}
use Rattle.book_state.proofs.ViewLaws.{kind_kept}
use Rattle.book_state.proofs.held.BookState.place_kept.Goals as goal

pub returns-in_default-clause-unkept : goal.returns-in_default-clause-unkept
returns-in_default-clause-unkept c = λ kept.
    let book = c.accounts.ensures.book in
    let has = kind_kept c.accounts.result.now c.args.self.now c.accounts.ensures.value book.0 book.1 c.args.vertex
    c.args.kind kept in
    true≢false (sym (c.in_default.ensures.kept has))
