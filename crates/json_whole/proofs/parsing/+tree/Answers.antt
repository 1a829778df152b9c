use Rattle.std.proofs.Common.{◌≡◌, ◌-◌, ◌<◌, [], ◌∷◌, ◌++◌, length, drop, Some, None, sym, ap, ◌∙◌, arith}
use Rattle.std.proofs.Common.{rules, ℕ, List, Global}
use Rattle.std.specs.Borrow.{Bor}
use Rattle.json.specs.Token.{Token}
use Rattle.json.specs.Json.{Json, array, object, parse_map, after_end_array, read_key, items, members, value}
use Rattle.json.specs.Reads.{token_of}
use Rattle.json.specs.Value.{value_view, items_view, members_view}
use Rattle.json.specs.declared.value.Value.{Value, String, Bool, Null, the_lemmas}
use Rattle.json.proofs.Grammar.{value_is, value-begin_array, value-begin_object, read_key-shorter}
use Rattle.json.proofs.Grammar.{items_end, items_more, members_end, members_more}
use Rattle.json.proofs.Trees.{items_before, members_before, items_before-no_items, members_before-no_members}
use Rattle.json.proofs.Trees.{one_more_item, one_more_member, view-Array, view-Object}
use Rattle.json_whole.specs.PlainTokens.{plain_tokens}
use Rattle.std.proofs.lemmas.Result.{IfOk-weaker}
use Rattle.json_whole.proofs.Growing.{grown_back, grown_front, grown_within}
use Rattle.json_whole.proofs.PlainSteps.{array_goes_on, array_ends, key_comes, value_shorter}
use Rattle.json_whole.proofs.parsing.+tree.Goals as goal

pub read_one-returns-in-String-clause-ok : goal.read_one-returns-in-String-clause-ok
read_one-returns-in-String-clause-ok t c =
    let first : c.args.reader.now ≡ token_of c.in_ok-token.token ∷ c.next.new.self = grind arith in
    let is : c.args.reader.now ≡ Token.string c.in-String.text.now ∷ c.next.new.self = grind (arith, first) in
    let seen : value_view (String c.in-String.text) ≡ Json.string c.in-String.text.now = search (rules, the_lemmas) in
    ap (λ ts. value c.args.depth (plain_tokens ts)) is ∙ value_is c.args.depth _
    ∙ ap (λ j. Some (j, plain_tokens c.next.new.self)) (sym seen)

pub read_one-returns-in-Number-clause-ok : goal.read_one-returns-in-Number-clause-ok
read_one-returns-in-Number-clause-ok t c =
    let first : c.args.reader.now ≡ token_of c.in_ok-token.token ∷ c.next.new.self = grind arith in
    let is : c.args.reader.now ≡ Token.number c.in-Number.number.now ∷ c.next.new.self = grind (arith, first) in
    IfOk-weaker c.read_number.result _ _
    (λ v read. ap (λ ts. value c.args.depth (plain_tokens ts)) is ∙ read (plain_tokens c.next.new.self))
    c.read_number.ensures.ok

pub read_one-returns-in-Bool-clause-ok : goal.read_one-returns-in-Bool-clause-ok
read_one-returns-in-Bool-clause-ok t c =
    let first : c.args.reader.now ≡ token_of c.in_ok-token.token ∷ c.next.new.self = grind arith in
    let is : c.args.reader.now ≡ Token.boolean c.in-Bool.b ∷ c.next.new.self = grind (arith, first) in
    let seen : value_view (Bool c.in-Bool.b) ≡ Json.boolean c.in-Bool.b = search (rules, the_lemmas) in
    ap (λ ts. value c.args.depth (plain_tokens ts)) is ∙ value_is c.args.depth _
    ∙ ap (λ j. Some (j, plain_tokens c.next.new.self)) (sym seen)

pub read_one-returns-in-Null-clause-ok : goal.read_one-returns-in-Null-clause-ok
read_one-returns-in-Null-clause-ok t c =
    let first : c.args.reader.now ≡ token_of c.in_ok-token.token ∷ c.next.new.self = grind arith in
    let is : c.args.reader.now ≡ Token.null ∷ c.next.new.self = grind (arith, first) in
    let seen : value_view Null ≡ Json.null = search (rules, the_lemmas) in
    ap (λ ts. value c.args.depth (plain_tokens ts)) is ∙ value_is c.args.depth _
    ∙ ap (λ j. Some (j, plain_tokens c.next.new.self)) (sym seen)

pub read_one-returns-in_ok-read_items-in-BeginArray-clause-ok :
    goal.read_one-returns-in_ok-read_items-in-BeginArray-clause-ok
read_one-returns-in_ok-read_items-in-BeginArray-clause-ok t c =
    let first : c.args.reader.now ≡ token_of c.in_ok-token.token ∷ c.next.new.self = grind arith in
    let opened =
    ap (λ ts. value c.args.depth (plain_tokens ts))
    (first ∙ ap (λ k. token_of k ∷ c.next.new.self) c.in-BeginArray.is)
    ∙ value-begin_array c.args.depth (plain_tokens c.next.new.self) (omega arith) in
    let found = c.in_ok-read_items-in-BeginArray in
    opened ∙ ap (parse_map array) found.ensures.ok
    ∙ ap (λ j. Some (j, plain_tokens c.read_items.new.reader)) (sym (view-Array found.field-0))

pub read_one-returns-in_ok-read_members-in-BeginObject-clause-ok :
    goal.read_one-returns-in_ok-read_members-in-BeginObject-clause-ok
read_one-returns-in_ok-read_members-in-BeginObject-clause-ok t c =
    let first : c.args.reader.now ≡ token_of c.in_ok-token.token ∷ c.next.new.self = grind arith in
    let opened =
    ap (λ ts. value c.args.depth (plain_tokens ts))
    (first ∙ ap (λ k. token_of k ∷ c.next.new.self) c.in-BeginObject.is)
    ∙ value-begin_object c.args.depth (plain_tokens c.next.new.self) (omega arith) in
    let found = c.in_ok-read_members-in-BeginObject in
    opened ∙ ap (parse_map object) found.ensures.ok
    ∙ ap (λ j. Some (j, plain_tokens c.read_members.new.reader)) (sym (view-Object found.field-0))

pub read_items-items-preserved : goal.read_items-items-preserved
read_items-items-preserved t c =
    let p = value c.args.depth in
    let l = c.items in
    let n = l.invariant.0 in
    let going : (after_end_array l.reader ≡ None) × (c.take_end_array.new.self ≡ l.reader) = grind arith in
    let done = c.in_ok-item.ensures in
    let v = c.in_ok-item.item in
    let r = c.read_one.new.reader in
    let from = c.len-from.result in
    let was = l.unfinished.items.items in
    let now = c.push.new.self.items in
    let less : length r < length l.reader = rw (← going.1) done.shorter in
    let now_read = plain_tokens l.reader in
    let read : p now_read ≡ Some (value_view v, plain_tokens r) = rw (← going.1) done.ok in
    let plain_less = value_shorter c.args.depth now_read (plain_tokens r) (value_view v) read in
    let grown : now ≡ was ++ v ∷ [] = c.in_ok-push.ensures.items ∙ ap (λ vs. vs ++ v ∷ []) done.items in
    let back = grown_back from was now v l.invariant.4 grown in
    let turn =
    items_more p n now_read (plain_tokens r) (value_view v) (omega (arith, l.invariant.1, plain_less))
    (array_goes_on l.reader going.0) read in (
      n - 1,
      omega (arith, l.invariant.1, plain_less),
      l.invariant.2 ∙ ap (parse_map (items_before (drop from was))) turn ∙ one_more_item (drop from was) v _
          ∙ ap (λ vs. parse_map (items_before vs) (items p (n - 1) (plain_tokens r))) (sym back),
      omega (arith, l.invariant.3),
      grown_within from was now v l.invariant.4 grown,
      grown_front from was now v l.invariant.4 grown ∙ l.invariant.5,
      done.members ∙ l.invariant.6,
    )

pub read_items-returns-clause-ok : goal.read_items-returns-clause-ok
read_items-returns-clause-ok t c =
    let p = value c.args.depth in
    let l = c.items in
    let n = l.invariant.0 in
    let r = c.take_end_array.new.self in
    let found = drop c.len-from.result l.unfinished.items.items in
    IfOk-weaker c.take_from.result _ _ (λ list taken. l.invariant.2
    ∙ ap (parse_map (items_before found)) (items_end p n (plain_tokens l.reader) (plain_tokens r) l.invariant.1
    (array_ends l.reader r (grind arith)))
    ∙ ap (λ js. Some (js, plain_tokens r)) (items_before-no_items found ∙ ap items_view (sym taken)))
    c.take_from.ensures.taken

pub read_members-members-preserved : goal.read_members-members-preserved
read_members-members-preserved t c =
    let p = value c.args.depth in
    let l = c.members in
    let n = l.invariant.0 in
    let k = c.in-Ok-Some.key.now in
    let s = c.next_key.new.self in
    let key : read_key l.reader ≡ Some (Some k, s) = grind arith in
    let done = c.in_ok-member.ensures in
    let v = c.in_ok-member.member in
    let r = c.read_one.new.reader in
    let from = c.len-from.result in
    let was = l.unfinished.members.items in
    let now = c.push.new.self.items in
    let m : Bor (List ℕ) × Value Global = (c.in-Ok-Some.key, v) in
    let less = read_key-shorter l.reader (Some k) s key in
    let lesser = done.shorter in
    let grown : now ≡ was ++ m ∷ [] = c.in_ok-push.ensures.items ∙ ap (λ ms. ms ++ m ∷ []) done.members in
    let back = grown_back from was now m l.invariant.4 grown in
    let next = key_comes l.reader (Some k) s key in
    let plain_less = read_key-shorter (plain_tokens l.reader) (Some k) (plain_tokens s) next in
    let plain_lesser = value_shorter c.args.depth (plain_tokens s) (plain_tokens r) (value_view v) done.ok in
    let turn =
    members_more p n k (plain_tokens l.reader) (plain_tokens s) (plain_tokens r) (value_view v)
    (omega (arith, l.invariant.1, plain_less)) next done.ok in (
      n - 1,
      omega (arith, l.invariant.1, plain_less, plain_lesser),
      l.invariant.2 ∙ ap (parse_map (members_before (drop from was))) turn ∙ one_more_member (drop from was) m _
          ∙ ap (λ ms. parse_map (members_before ms) (members p (n - 1) (plain_tokens r))) (sym back),
      omega (arith, l.invariant.3),
      grown_within from was now m l.invariant.4 grown,
      grown_front from was now m l.invariant.4 grown ∙ l.invariant.5,
      done.items ∙ l.invariant.6,
    )

pub read_members-returns-clause-ok : goal.read_members-returns-clause-ok
read_members-returns-clause-ok t c =
    let p = value c.args.depth in
    let l = c.members in
    let n = l.invariant.0 in
    let r = c.next_key.new.self in
    let found = drop c.len-from.result l.unfinished.members.items in
    let closed : read_key l.reader ≡ Some (None, r) = grind arith in
    IfOk-weaker c.take_from.result _ _ (λ list taken. l.invariant.2
    ∙ ap (parse_map (members_before found)) (members_end p n (plain_tokens l.reader) (plain_tokens r)
    l.invariant.1 (key_comes l.reader None r closed))
    ∙ ap (λ ms. Some (ms, plain_tokens r)) (members_before-no_members found ∙ ap members_view (sym taken)))
    c.take_from.ensures.taken
