use Rattle.std.proofs.Common.{rules, ◌≡◌, ℕ, List, Some, None, sym, ap, subst, ◌∙◌}
use Rattle.std.proofs.lemmas.Grind.{common_steps}
use Rattle.admission.specs.Guesses.{name_number}
use Rattle.admission.specs.Owners.{Names, IsUser}
use Rattle.admission.specs.Verdicts.{asked, username}
use Rattle.admission.proofs.Owning.{user_names, user_only, none_only}
use Rattle.admission.proofs.judging.Admission.user.Goals as goal

pub returns-in-Some-clause-names : goal.returns-in-Some-clause-names
returns-in-Some-clause-names c =
    let a = c.args.self.now in let x = c.args.arrival in
    let e = c.asked.ensures in
    let k0 = c.in-Some-Some.is-0 in
    let k1 = c.in-Some-Some.is-1 in
    let k2 = c.in-Some-Some.ensures in
    let own : a.authentication ≡ Some c.in-Some-Some.authentication = first_of (cc, search rules) in
    let is : asked x.reading ≡ Some c.in-Some-Some._request.now = first_of (cc, search rules, grind common_steps) in
    let u = c.username.ensures in
    let some : username c.in_ok-shown.shown ≡ Some c.in-Some.user.now = first_of (cc, search rules, grind common_steps) in
    let text : c.as_str.result.now ≡ c.in-Some.user.now = (let t = c.as_str.ensures in first_of (cc, search rules)) in
    let n : c.name_number.result ≡ name_number c.in-Some.user.now = c.name_number.ensures ∙ ap (λ (t : List ℕ). name_number t) text in
    let P : ℕ → Type 0 = λ m. Names a x m in
    subst P (sym n) (user_names a x c.in-Some-Some.authentication c.in-Some-Some._request.now (own, is) c.in_ok-shown.shown c.in_ok-shown.ensures.is c.in_ok-shown.ensures.only c.in-Some.user.now some)

pub returns-in-Some-clause-only : goal.returns-in-Some-clause-only
returns-in-Some-clause-only c =
    let a = c.args.self.now in let x = c.args.arrival in
    let e = c.asked.ensures in
    let k0 = c.in-Some-Some.is-0 in
    let k1 = c.in-Some-Some.is-1 in
    let k2 = c.in-Some-Some.ensures in
    let own : a.authentication ≡ Some c.in-Some-Some.authentication = first_of (cc, search rules) in
    let is : asked x.reading ≡ Some c.in-Some-Some._request.now = first_of (cc, search rules, grind common_steps) in
    let u = c.username.ensures in
    let some : username c.in_ok-shown.shown ≡ Some c.in-Some.user.now = first_of (cc, search rules, grind common_steps) in
    let text : c.as_str.result.now ≡ c.in-Some.user.now = (let t = c.as_str.ensures in first_of (cc, search rules)) in
    let n : c.name_number.result ≡ name_number c.in-Some.user.now = c.name_number.ensures ∙ ap (λ (t : List ℕ). name_number t) text in
    let P : ℕ → Type 0 = λ m. IsUser a x (Some m) in
    subst P (sym n) (user_only a x c.in-Some-Some.authentication c.in-Some-Some._request.now (own, is) c.in_ok-shown.shown c.in_ok-shown.ensures.is c.in_ok-shown.ensures.only c.in-Some.user.now some)

pub returns-clause-only : goal.returns-clause-only
returns-clause-only c =
    let a = c.args.self.now in let x = c.args.arrival in
    let e = c.asked.ensures in
    let k0 = c.in-Some-Some.is-0 in
    let k1 = c.in-Some-Some.is-1 in
    let k2 = c.in-Some-Some.ensures in
    let own : a.authentication ≡ Some c.in-Some-Some.authentication = first_of (cc, search rules) in
    let is : asked x.reading ≡ Some c.in-Some-Some._request.now = first_of (cc, search rules, grind common_steps) in
    let u = c.username.ensures in
    let none : username c.in_ok-shown.shown ≡ None = first_of (cc, search rules, grind common_steps) in
    none_only a x c.in-Some-Some.authentication c.in-Some-Some._request.now (own, is) c.in_ok-shown.shown c.in_ok-shown.ensures.is c.in_ok-shown.ensures.only none
