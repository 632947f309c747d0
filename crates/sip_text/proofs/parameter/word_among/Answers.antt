use Rattle.std.proofs.Common.{◌≡◌, ℕ, ◌<◌, true, false, List, length, Some, None, option_map, refl, arith, Bor}
use Rattle.std.proofs.lemmas.Bool.Decides.{nat_tests}
use Rattle.sip_text.specs.Bytes.{is_in}
use Rattle.sip_text.specs.Reading.{word_among, word_value}
use Rattle.sip_text.specs.Views.{view}
use Rattle.sip_text.specs.Grammar.{has_name}
use Rattle.std.specs.Option.{is_some}
use Rattle.sip_text.proofs.Lists.{parameter_shortens}
use Rattle.sip_text.proofs.NamedWords.{is_done, no_parameter, goes_past, finds_word, no_word, second, is_none}
use Rattle.sip_text.proofs.parameter.word_among.Goals as goal

pub returns-in_err-parameter : goal.returns-in_err-parameter
returns-in_err-parameter c =
    let some : 0 < length c.loop-rest.rest.now = grind (arith, nat_tests) in
    rw c.from_residual.ensures (no_parameter (is_in c.args.class) c.args.name.now (option_map (λ x. x.now) c.loop-rest.word) c.loop-rest.rest.now (word_among (is_in c.args.class) c.args.name.now c.args.text.now) c.loop-rest.invariant some c.in_err-parameter.ensures)

pub returns-then-is_some : goal.returns-then-is_some
returns-then-is_some c =
    let same : has_name c.args.name.now (view c.in_ok-parameter.parameter) ≡ true = cc in
    let some : is_some c.loop-rest.word ≡ true = cc in
    let now : Bor (List ℕ) → List ℕ = λ x. x.now in
    second (is_in c.args.class) c.args.name.now (option_map (λ x. x.now) c.loop-rest.word) c.loop-rest.rest.now (word_among (is_in c.args.class) c.args.name.now c.args.text.now) c.loop-rest.invariant (view c.in_ok-parameter.parameter) c.in_ok-parameter.after.now c.in_ok-parameter.ensures now c.loop-rest.word refl some same

pub returns-in_err-parameter-2 : goal.returns-in_err-parameter-2
returns-in_err-parameter-2 c =
    let same : has_name c.args.name.now (view c.in_ok-parameter.parameter) ≡ true = cc in
    let none : is_some c.loop-rest.word ≡ false = cc in
    let now : Bor (List ℕ) → List ℕ = λ x. x.now in
    let first : option_map now c.loop-rest.word ≡ None = is_none now c.loop-rest.word none in
    let bad : word_value (is_in c.args.class) (Some (view c.in_ok-parameter.parameter)) ≡ None = rw c.in_err-parameter-2.was refl in
    rw c.from_residual-in_err-parameter-2.ensures (no_word (is_in c.args.class) c.args.name.now (option_map (λ x. x.now) c.loop-rest.word) c.loop-rest.rest.now (word_among (is_in c.args.class) c.args.name.now c.args.text.now) c.loop-rest.invariant (view c.in_ok-parameter.parameter) c.in_ok-parameter.after.now c.in_ok-parameter.ensures first same bad)

pub returns-in_err-word_of : goal.returns-in_err-word_of
returns-in_err-word_of c =
    let same : has_name c.args.name.now (view c.in_ok-parameter.parameter) ≡ true = cc in
    let none : is_some c.loop-rest.word ≡ false = cc in
    let now : Bor (List ℕ) → List ℕ = λ x. x.now in
    let first : option_map now c.loop-rest.word ≡ None = is_none now c.loop-rest.word none in
    let bad : word_value (is_in c.args.class) (Some (view c.in_ok-parameter.parameter)) ≡ None = rw (c.in_ok-parameter-2.was, c.in_err-word_of.ensures) refl in
    rw c.from_residual-in_err-word_of.ensures (no_word (is_in c.args.class) c.args.name.now (option_map (λ x. x.now) c.loop-rest.word) c.loop-rest.rest.now (word_among (is_in c.args.class) c.args.name.now c.args.text.now) c.loop-rest.invariant (view c.in_ok-parameter.parameter) c.in_ok-parameter.after.now c.in_ok-parameter.ensures first same bad)

pub loop-rest-smaller-in_ok-word_of : goal.loop-rest-smaller-in_ok-word_of
loop-rest-smaller-in_ok-word_of c = parameter_shortens c.loop-rest.rest.now (view c.in_ok-parameter.parameter) c.in_ok-parameter.after.now c.in_ok-parameter.ensures

pub loop-rest-preserved-in_ok-word_of : goal.loop-rest-preserved-in_ok-word_of
loop-rest-preserved-in_ok-word_of c =
    let same : has_name c.args.name.now (view c.in_ok-parameter.parameter) ≡ true = cc in
    let none : is_some c.loop-rest.word ≡ false = cc in
    let now : Bor (List ℕ) → List ℕ = λ x. x.now in
    let first : option_map now c.loop-rest.word ≡ None = is_none now c.loop-rest.word none in
    let found : word_value (is_in c.args.class) (Some (view c.in_ok-parameter.parameter)) ≡ Some (Some c.in_ok-word_of.field-0.now) = rw (c.in_ok-parameter-2.was, c.in_ok-word_of.ensures) refl in
    finds_word (is_in c.args.class) c.args.name.now (option_map (λ x. x.now) c.loop-rest.word) c.loop-rest.rest.now (word_among (is_in c.args.class) c.args.name.now c.args.text.now) c.loop-rest.invariant (view c.in_ok-parameter.parameter) c.in_ok-parameter.after.now c.in_ok-parameter.ensures c.in_ok-word_of.field-0.now first same found

pub loop-rest-smaller : goal.loop-rest-smaller
loop-rest-smaller c = parameter_shortens c.loop-rest.rest.now (view c.in_ok-parameter.parameter) c.in_ok-parameter.after.now c.in_ok-parameter.ensures

pub loop-rest-preserved : goal.loop-rest-preserved
loop-rest-preserved c =
    let other : has_name c.args.name.now (view c.in_ok-parameter.parameter) ≡ false = cc in
    goes_past (is_in c.args.class) c.args.name.now (option_map (λ x. x.now) c.loop-rest.word) c.loop-rest.rest.now (word_among (is_in c.args.class) c.args.name.now c.args.text.now) c.loop-rest.invariant (view c.in_ok-parameter.parameter) c.in_ok-parameter.after.now c.in_ok-parameter.ensures other

pub returns : goal.returns
returns c =
    let none : length c.loop-rest.rest.now ≡ 0 = grind (arith, nat_tests) in
    is_done (is_in c.args.class) c.args.name.now (option_map (λ x. x.now) c.loop-rest.word) c.loop-rest.rest.now (word_among (is_in c.args.class) c.args.name.now c.args.text.now) c.loop-rest.invariant none
