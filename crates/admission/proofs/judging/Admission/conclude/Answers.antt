use Rattle.std.proofs.Common.{rules, ◌≡◌, ℕ, true, List, Some, None, sym, subst, ◌∙◌}
use Rattle.std.proofs.lemmas.Grind.{common_steps}
use Rattle.admission.specs.Verdicts.{asked, username, is_barred, barred_user, IsSeated, IsConcluded}
use Rattle.admission.proofs.Concluding.{unbarred, IsHim, barred_is, not_both, free_one, seated_concluded, if_ok}
use Rattle.admission.proofs.judging.Admission.conclude.Goals as goal

pub returns-in-Challenge-clause-concluded : goal.returns-in-Challenge-clause-concluded
returns-in-Challenge-clause-concluded c =
    let e = c.asked.ensures in
    let k0 = c.in-Some-Some.is-0 in
    let k1 = c.in-Some-Some.is-1 in
    let k2 = c.in-Some-Some.ensures in
    let own : c.args.self.now.authentication ≡ Some c.in-Some-Some.authentication = first_of (cc, search rules) in
    let is : asked c.args.arrival.reading ≡ Some c.in-Some-Some.request.now = first_of (cc, search rules, grind common_steps) in
    let none : barred_user c.args.self.now c.args.arrival (username c.in_ok-shown.shown) ≡ None = search rules in
    let h = rw c.in-Challenge.is at c.in_ok-conclude.ensures.concluded in (
      unbarred c.args.self.now c.args.arrival c.in-Some-Some.authentication own c.in_ok-shown.shown c.in_ok-shown.ensures.only none,
      record {
        authentication = c.in-Some-Some.authentication;
        request = c.in-Some-Some.request.now;
        asked = (own, is);
        found = h.0;
        says = h.1;
      },
    )

pub returns-in-Guess-clause-concluded : goal.returns-in-Guess-clause-concluded
returns-in-Guess-clause-concluded c =
    let e = c.asked.ensures in
    let k0 = c.in-Some-Some.is-0 in
    let k1 = c.in-Some-Some.is-1 in
    let k2 = c.in-Some-Some.ensures in
    let own : c.args.self.now.authentication ≡ Some c.in-Some-Some.authentication = first_of (cc, search rules) in
    let is : asked c.args.arrival.reading ≡ Some c.in-Some-Some.request.now = first_of (cc, search rules, grind common_steps) in
    let none : barred_user c.args.self.now c.args.arrival (username c.in_ok-shown.shown) ≡ None = search rules in
    let h = rw c.in-Guess.is at c.in_ok-conclude.ensures.concluded in (
      unbarred c.args.self.now c.args.arrival c.in-Some-Some.authentication own c.in_ok-shown.shown c.in_ok-shown.ensures.only none,
      record {
        authentication = c.in-Some-Some.authentication;
        request = c.in-Some-Some.request.now;
        asked = (own, is);
        found = h.0;
        says = h.1;
      },
    )

pub returns-in-Forbidden-clause-concluded : goal.returns-in-Forbidden-clause-concluded
returns-in-Forbidden-clause-concluded c =
    let e = c.asked.ensures in
    let k0 = c.in-Some-Some.is-0 in
    let k1 = c.in-Some-Some.is-1 in
    let k2 = c.in-Some-Some.ensures in
    let own : c.args.self.now.authentication ≡ Some c.in-Some-Some.authentication = first_of (cc, search rules) in
    let is : asked c.args.arrival.reading ≡ Some c.in-Some-Some.request.now = first_of (cc, search rules, grind common_steps) in
    let none : barred_user c.args.self.now c.args.arrival (username c.in_ok-shown.shown) ≡ None = search rules in
    let h = rw c.in-Forbidden.is at c.in_ok-conclude.ensures.concluded in (
      unbarred c.args.self.now c.args.arrival c.in-Some-Some.authentication own c.in_ok-shown.shown c.in_ok-shown.ensures.only none,
      record {
        authentication = c.in-Some-Some.authentication;
        request = c.in-Some-Some.request.now;
        asked = (own, is);
        forbidden = h.0;
        says = h.1;
      },
    )

pub returns-in-Admitted-clause-concluded : goal.returns-in-Admitted-clause-concluded
returns-in-Admitted-clause-concluded c =
    let a = c.args.self.now in let x = c.args.arrival in
    let e = c.asked.ensures in
    let k0 = c.in-Some-Some.is-0 in
    let k1 = c.in-Some-Some.is-1 in
    let k2 = c.in-Some-Some.ensures in
    let own : a.authentication ≡ Some c.in-Some-Some.authentication = first_of (cc, search rules) in
    let is : asked x.reading ≡ Some c.in-Some-Some.request.now = first_of (cc, search rules, grind common_steps) in
    let none : barred_user a x (username c.in_ok-shown.shown) ≡ None = search rules in
    let h = rw c.in-Admitted.is at c.in_ok-conclude.ensures.concluded in
    if_ok c.seat-in-Admitted.result (IsSeated a x) (IsConcluded a x)
    (λ v s. seated_concluded a x v (unbarred a x c.in-Some-Some.authentication own c.in_ok-shown.shown c.in_ok-shown.ensures.only none) (free_one a x c.in-Some-Some.authentication c.in-Some-Some.request.now own is h) s)
    c.seat-in-Admitted.ensures.seated

pub returns-in-Some-clause-concluded : goal.returns-in-Some-clause-concluded
returns-in-Some-clause-concluded c =
    let a = c.args.self.now in let x = c.args.arrival in
    let e = c.asked.ensures in
    let k0 = c.in-Some-Some.is-0 in
    let k1 = c.in-Some-Some.is-1 in
    let k2 = c.in-Some-Some.ensures in
    let own : a.authentication ≡ Some c.in-Some-Some.authentication = first_of (cc, search rules) in
    let is : asked x.reading ≡ Some c.in-Some-Some.request.now = first_of (cc, search rules, grind common_steps) in
    let b = c.barred.ensures in
    let some : barred_user a x (username c.in_ok-shown.shown) ≡ Some c.in-Some.user.now = first_of (cc, search rules, grind common_steps) in
    let him : IsHim a x c.in-Some-Some.authentication.guard.passwords.realm c.in_ok-shown.shown c.in-Some.user.now = barred_is a x c.in-Some-Some.authentication.guard.passwords.realm c.in_ok-shown.shown c.in-Some.user.now c.in_ok-shown.ensures.is some in
    let same : c.in_ok-copy.field-0 ≡ c.in-Some.user.now = c.in_ok-copy.ensures in
    let P : List ℕ → Type 0 = λ u. is_barred a x u ≡ true in
    let r = c.reply.ensures.request in let s = c.reply.ensures.source in let t = c.reply.ensures.tag in
    record {
      authentication = c.in-Some-Some.authentication;
      request = c.in-Some-Some.request.now;
      asked = (own, is);
      credentials = him.credentials;
      shows = him.shows;
      name = same ∙ him.name;
      barred = subst P (sym same) him.barred;
      says = (let o = c.in_ok-octets.ensures in rw (r, s, t) at o);
    }

pub returns-in-Some-clause-free : goal.returns-in-Some-clause-free
returns-in-Some-clause-free c = λ unbarred free seated.
    let a = c.args.self.now in let x = c.args.arrival in
    let e = c.asked.ensures in
    let k0 = c.in-Some-Some.is-0 in
    let k1 = c.in-Some-Some.is-1 in
    let k2 = c.in-Some-Some.ensures in
    let own : a.authentication ≡ Some c.in-Some-Some.authentication = first_of (cc, search rules) in
    let is : asked x.reading ≡ Some c.in-Some-Some.request.now = first_of (cc, search rules, grind common_steps) in
    let b = c.barred.ensures in
    let some : barred_user a x (username c.in_ok-shown.shown) ≡ Some c.in-Some.user.now = first_of (cc, search rules, grind common_steps) in
    absurd (not_both a x c.in_ok-shown.shown c.in-Some.user.now c.in-Some-Some.authentication c.in-Some-Some.request.now c.in_ok-shown.ensures.is some (own, is) unbarred)
