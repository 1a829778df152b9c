use Rattle.std.proofs.Common.{◌≡◌, ◌-◌, ◌∷◌, ◌++◌, length, take, drop, Some, None, sym, ap, ◌∙◌, subst, arith}
use Rattle.std.proofs.Common.{rules}
use Rattle.std.proofs.lemmas.List.{drop-append-le, take-append-le, length-append}
use Rattle.std.proofs.lemmas.Result.{IfOk-weaker}
use Rattle.json.specs.Token.{Token}
use Rattle.json.specs.Json.{Json, object, parse_map, read_key, value}
use Rattle.json.specs.Reads.{token_of}
use Rattle.json.specs.Value.{value_view, members_view}
use Rattle.json.specs.declared.value.Value.{Null, the_lemmas}
use Rattle.json.proofs.Grammar.{value_is, value-begin_object, read_key-shorter}
use Rattle.json.proofs.Trees.{view-Object}
use Rattle.json_whole.specs.Parts.{built}
use Rattle.json_whole.specs.PlainTokens.{plain_tokens}
use Rattle.json_whole.proofs.PlainSteps.{key_comes, value_shorter}
use Rattle.json_whole.proofs.Built.{PartGoesOn, part_grows, part_ends}
use Rattle.json_whole.proofs.parts.+part.Goals as goal

pub read_object-returns-in-Null-clause-ok : goal.read_object-returns-in-Null-clause-ok
read_object-returns-in-Null-clause-ok t c =
    let first : c.args.reader.now ≡ token_of c.in_ok-token.token ∷ c.next.new.self = grind arith in
    let is : c.args.reader.now ≡ Token.null ∷ c.next.new.self = grind (arith, first) in
    let seen : value_view Null ≡ Json.null = search (rules, the_lemmas) in
    (Json.null, ap (λ ts. value c.args.depth (plain_tokens ts)) is ∙ value_is c.args.depth _, sym seen)

pub read_object-returns-in_ok-read_wanted-in-BeginObject-clause-ok :
    goal.read_object-returns-in_ok-read_wanted-in-BeginObject-clause-ok
read_object-returns-in_ok-read_wanted-in-BeginObject-clause-ok t c =
    let first : c.args.reader.now ≡ token_of c.in_ok-token.token ∷ c.next.new.self = grind arith in
    let begun =
    ap (λ ts. value c.args.depth (plain_tokens ts))
    (first ∙ ap (λ k. token_of k ∷ c.next.new.self) c.in-BeginObject.is)
    ∙ value-begin_object c.args.depth (plain_tokens c.next.new.self) (omega arith) in
    let found = c.in_ok-read_wanted-in-BeginObject.ensures.ok in (
      object found.0,
      begun ∙ ap (parse_map object) found.1,
      ap object found.2 ∙ sym (view-Object c.in_ok-read_wanted-in-BeginObject.field-0),
    )

pub read_wanted-members-preserved : goal.read_wanted-members-preserved
read_wanted-members-preserved t c =
    let p = value c.args.depth in
    let l = c.members in
    let start = plain_tokens c.args.reader.now in
    let n = l.invariant.0 in
    let k = c.in-Ok-Some.key in
    let s = c.next_key.new.self in
    let key : read_key l.reader ≡ Some (Some k.now, s) = grind arith in
    let done = c.in_ok-member.ensures in
    let o = c.in_ok-member.member in
    let r = c.read_member.new.reader in
    let from = c.len-from.result in
    let was = l.unfinished.members.items in
    let now = c.add_member.new.members.items in
    let less = read_key-shorter l.reader (Some k.now) s key in
    let lesser = done.shorter in
    let next = key_comes l.reader (Some k.now) s key in
    let plain_less = read_key-shorter (plain_tokens l.reader) (Some k.now) (plain_tokens s) next in
    let plain_lesser = value_shorter c.args.depth (plain_tokens s) (plain_tokens r) done.ok.0 done.ok.1 in
    let grown : now ≡ was ++ built k o = c.in_ok-add_member.ensures ∙ ap (λ ms. ms ++ built k o) done.members in
    let back : drop from now ≡ drop from was ++ built k o =
    ap (drop from) grown ∙ drop-append-le from was (built k o) l.invariant.4 in
    let front : take from now ≡ take from was =
    ap (take from) grown ∙ take-append-le from was (built k o) l.invariant.4 in (
      n - 1,
      omega (arith, l.invariant.1, plain_less, plain_lesser),
      subst (λ ms. PartGoesOn p c.args.wanted.now c.args.within.now start ms (n - 1) (plain_tokens r)) (sym back)
          (part_grows p c.args.wanted.now c.args.within.now start (drop from was) k o n (plain_tokens l.reader)
          (plain_tokens s) (plain_tokens r) done.ok.0 l.invariant.2 (omega (arith, l.invariant.1, plain_less)) next
          done.ok.1 done.ok.2),
      omega (arith, l.invariant.3),
      omega (arith, ap length grown, length-append was (built k o), l.invariant.4),
      front ∙ l.invariant.5,
      done.items ∙ l.invariant.6,
    )

pub read_wanted-returns-clause-ok : goal.read_wanted-returns-clause-ok
read_wanted-returns-clause-ok t c =
    let l = c.members in
    let r = c.next_key.new.self in
    let found = drop c.len-from.result l.unfinished.members.items in
    let closed : read_key l.reader ≡ Some (None, r) = grind arith in
    let end = key_comes l.reader None r closed in
    let all = part_ends (value c.args.depth) c.args.wanted.now c.args.within.now (plain_tokens c.args.reader.now) found
    l.invariant.0 (plain_tokens l.reader) (plain_tokens r) l.invariant.2 l.invariant.1 end in
    IfOk-weaker c.take_from.result _ _
    (λ list taken. (all.0, all.1, all.2 ∙ ap members_view (sym taken))) c.take_from.ensures.taken
