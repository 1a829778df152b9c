use Rattle.book_state.specs.Books.{rows_of}
use Rattle.book_state.proofs.TieLaws.{live_tells}
use Rattle.book_state.proofs.held.BookState.find.Goals as goal

pub returns-clause-live : goal.returns-clause-live
returns-clause-live g c = λ jobs x. live_tells (rows_of c.args.self.now) jobs x.ties c.args.id
