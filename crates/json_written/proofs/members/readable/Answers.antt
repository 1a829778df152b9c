use Rattle.std.proofs.Common.{◌≡◌, refl, sym, ap, ◌∙◌, ℕ, List, [], Bool, true, false, if◌then◌else◌, IsUtf8}
use Rattle.std.proofs.lemmas.Str.{IsUtf8-from_is_utf8, is_utf8-from_IsUtf8}
use Rattle.std.specs.Str.{is_utf8}
use Rattle.json_written.proofs.members.readable.Goals as goal

not_readable : (text : List ℕ) (b : Bool) → is_utf8 text ≡ b → (IsUtf8 text → ⊥) → [] ≡ (if b then text else [])
not_readable text true e none = absurd (none (IsUtf8-from_is_utf8 text e))
not_readable text false e none = refl

pub returns-in-Ok : goal.returns-in-Ok
returns-in-Ok c =
    let bytes = c.args.bytes.now in
    c.in-Ok.ensures.cases.0
    ∙ ap (λ b. if b then bytes else []) (sym (is_utf8-from_IsUtf8 bytes c.in-Ok.ensures.cases.1))

pub returns-in-Err : goal.returns-in-Err
returns-in-Err c = not_readable c.args.bytes.now (is_utf8 c.args.bytes.now) refl c.in-Err.ensures.cases.0
