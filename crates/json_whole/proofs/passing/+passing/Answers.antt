use Rattle.std.proofs.Common.{◌≡◌, ◌-◌, ◌<◌, ◌∷◌, length, Some, None, ap, ◌∙◌, arith}
use Rattle.json.specs.Token.{Token}
use Rattle.json.specs.Json.{Json, array, object, parse_map, after_end_array, read_key, value}
use Rattle.json.specs.Reads.{token_of}
use Rattle.json.proofs.Grammar.{value_is, value-begin_array, value-begin_object, read_key-shorter}
use Rattle.std.proofs.lemmas.Result.{IfOk-weaker}
use Rattle.json_whole.specs.PlainTokens.{plain_tokens}
use Rattle.json_whole.specs.declared.runs.Form.TheVariants.{Listed}
use Rattle.json_whole.proofs.PlainSteps.{array_goes_on, array_ends, key_comes, value_shorter, number_read}
use Rattle.json_whole.proofs.Passed.{item_passed, items_passed}
use Rattle.json_whole.proofs.Passed.{member_passed, members_passed}
use Rattle.json_whole.proofs.passing.+passing.Goals as goal

pub pass_over-returns-in-String-clause-ok : goal.pass_over-returns-in-String-clause-ok
pass_over-returns-in-String-clause-ok t c =
    let first : c.args.reader.now ≡ token_of c.in_ok-token.token ∷ c.next.new.self = grind arith in
    let is : c.args.reader.now ≡ Token.string c.in-String.field-0.now ∷ c.next.new.self = grind (arith, first) in
    (Json.string c.in-String.field-0.now, ap (λ ts. value c.args.depth (plain_tokens ts)) is ∙ value_is c.args.depth _)

pub pass_over-returns-in_ok-number_form-in-Number-clause-ok :
    goal.pass_over-returns-in_ok-number_form-in-Number-clause-ok
pass_over-returns-in_ok-number_form-in-Number-clause-ok t c =
    let first : c.args.reader.now ≡ token_of c.in_ok-token.token ∷ c.next.new.self = grind arith in
    let is : c.args.reader.now ≡ Token.number c.in-Number.number.now ∷ c.next.new.self = grind (arith, first) in
    let form = c.in_ok-number_form-in-Number in
    let nests : form.field-0 ≡ Listed → 0 < c.args.depth = λ is_list. omega (arith, form.ensures.nests is_list) in
    let read = number_read form.field-0 c.args.depth c.in-Number.number.now (plain_tokens c.next.new.self)
    form.ensures.tokens nests in
    (read.0, ap (λ ts. value c.args.depth (plain_tokens ts)) is ∙ read.1)

pub pass_over-returns-in-Bool-clause-ok : goal.pass_over-returns-in-Bool-clause-ok
pass_over-returns-in-Bool-clause-ok t c =
    let first : c.args.reader.now ≡ token_of c.in_ok-token.token ∷ c.next.new.self = grind arith in
    let is : c.args.reader.now ≡ Token.boolean c.in-Bool.field-0 ∷ c.next.new.self = grind (arith, first) in
    (Json.boolean c.in-Bool.field-0, ap (λ ts. value c.args.depth (plain_tokens ts)) is ∙ value_is c.args.depth _)

pub pass_over-returns-in-Null-clause-ok : goal.pass_over-returns-in-Null-clause-ok
pass_over-returns-in-Null-clause-ok t c =
    let first : c.args.reader.now ≡ token_of c.in_ok-token.token ∷ c.next.new.self = grind arith in
    let is : c.args.reader.now ≡ Token.null ∷ c.next.new.self = grind (arith, first) in
    (Json.null, ap (λ ts. value c.args.depth (plain_tokens ts)) is ∙ value_is c.args.depth _)

pub pass_over-returns-else-depth-eq0-clause-ok : goal.pass_over-returns-else-depth-eq0-clause-ok
pass_over-returns-else-depth-eq0-clause-ok t c =
    let first : c.args.reader.now ≡ token_of c.in_ok-token.token ∷ c.next.new.self = grind arith in
    let begun =
    ap (λ ts. value c.args.depth (plain_tokens ts))
    (first ∙ ap (λ k. token_of k ∷ c.next.new.self) c.in-BeginArray.is)
    ∙ value-begin_array c.args.depth (plain_tokens c.next.new.self) (omega arith) in
    IfOk-weaker c.pass_items.result _ _
    (λ _ found. (array found.0, begun ∙ ap (parse_map array) found.1)) c.pass_items.ensures.ok

pub pass_over-returns-else-depth-eq0-2-clause-ok : goal.pass_over-returns-else-depth-eq0-2-clause-ok
pass_over-returns-else-depth-eq0-2-clause-ok t c =
    let first : c.args.reader.now ≡ token_of c.in_ok-token.token ∷ c.next.new.self = grind arith in
    let begun =
    ap (λ ts. value c.args.depth (plain_tokens ts))
    (first ∙ ap (λ k. token_of k ∷ c.next.new.self) c.in-BeginObject.is)
    ∙ value-begin_object c.args.depth (plain_tokens c.next.new.self) (omega arith) in
    IfOk-weaker c.pass_members.result _ _
    (λ _ found. (object found.0, begun ∙ ap (parse_map object) found.1)) c.pass_members.ensures.ok

pub pass_items-items-preserved : goal.pass_items-items-preserved
pass_items-items-preserved t c =
    let p = value c.args.depth in
    let l = c.items in
    let n = l.invariant.0 in
    let going : (after_end_array l.reader ≡ None) × (c.take_end_array.new.self ≡ l.reader) = grind arith in
    let done = c.in_ok-pass_over.ensures in
    let r = c.pass_over.new.reader in
    let less : length r < length l.reader = rw (← going.1) done.shorter in
    let now_read = plain_tokens l.reader in
    let read : p now_read ≡ Some (done.ok.0, plain_tokens r) = rw (← going.1) done.ok.1 in
    let plain_less = value_shorter c.args.depth now_read (plain_tokens r) done.ok.0 read in (
      n - 1,
      omega (arith, l.invariant.1, plain_less),
      item_passed p (plain_tokens c.args.reader.now) n now_read (plain_tokens r) done.ok.0 l.invariant.2
          (omega (arith, l.invariant.1, plain_less)) (array_goes_on l.reader going.0) read,
      omega (arith, l.invariant.3),
    )

pub pass_items-returns-clause-ok : goal.pass_items-returns-clause-ok
pass_items-returns-clause-ok t c =
    let l = c.items in
    let r = c.take_end_array.new.self in
    items_passed (value c.args.depth) (plain_tokens c.args.reader.now) l.invariant.0 (plain_tokens l.reader)
    (plain_tokens r) l.invariant.2 l.invariant.1 (array_ends l.reader r (grind arith))

pub pass_members-members-preserved : goal.pass_members-members-preserved
pass_members-members-preserved t c =
    let p = value c.args.depth in
    let l = c.members in
    let n = l.invariant.0 in
    let k = c.in-Ok-Some.field-0-0.now in
    let s = c.next_key.new.self in
    let key : read_key l.reader ≡ Some (Some k, s) = grind arith in
    let done = c.in_ok-pass_over-in-Ok-Some.ensures in
    let r = c.pass_over.new.reader in
    let less = read_key-shorter l.reader (Some k) s key in
    let lesser = done.shorter in
    let next = key_comes l.reader (Some k) s key in
    let plain_less = read_key-shorter (plain_tokens l.reader) (Some k) (plain_tokens s) next in
    let plain_lesser = value_shorter c.args.depth (plain_tokens s) (plain_tokens r) done.ok.0 done.ok.1 in (
      n - 1,
      omega (arith, l.invariant.1, plain_less, plain_lesser),
      member_passed p (plain_tokens c.args.reader.now) n k (plain_tokens l.reader) (plain_tokens s) (plain_tokens r)
          done.ok.0 l.invariant.2 (omega (arith, l.invariant.1, plain_less)) next done.ok.1,
      omega (arith, l.invariant.3),
    )

pub pass_members-returns-clause-ok : goal.pass_members-returns-clause-ok
pass_members-returns-clause-ok t c =
    let l = c.members in
    let closed : read_key l.reader ≡ Some (None, c.next_key.new.self) = grind arith in
    let r = c.next_key.new.self in
    members_passed (value c.args.depth) (plain_tokens c.args.reader.now) l.invariant.0 (plain_tokens l.reader)
    (plain_tokens r) l.invariant.2 l.invariant.1 (key_comes l.reader None r closed)
