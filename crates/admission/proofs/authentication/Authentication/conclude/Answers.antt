use Rattle.std.proofs.Common.{◌≡◌, sym, true}
use Rattle.admission.specs.declared.authentication.Finding.TheVariants as finding
use Rattle.admission.specs.Inquiries.{inquiry_seen, IsFound, MayAsk}
use Rattle.admission.proofs.Asking.{IsUser, user_found, ask_same}
use Rattle.admission.proofs.authentication.Authentication.conclude.Goals as goal

pub returns-then-may_ask-clause-concluded : goal.returns-then-may_ask-clause-concluded
returns-then-may_ask-clause-concluded c =
    let found : IsFound c.args.self.now.guard (inquiry_seen c.args.inquiry) (finding.User c.in-User.user) = rw c.in-User.is at c.in_ok-cause.ensures.found in
    let k : IsUser c.args.self.now.guard (inquiry_seen c.args.inquiry) c.in-User.user = user_found c.args.self.now.guard (inquiry_seen c.args.inquiry) c.in-User.user found in
    let name : c.in-User.user ≡ k.credentials.username = k.name in
    let e : c.as_str.result.now ≡ k.credentials.username = (let own = c.as_str.ensures in cc) in
    record {
      credentials = k.credentials;
      shows = k.shows;
      accepted = k.accepted;
      may = ask_same (inquiry_seen c.args.inquiry) c.as_str.result.now k.credentials.username c.deref.result.now c.args.self.now.further.items e c.deref.ensures.value (c.may_ask.ensures.0 c.if-may_ask.true);
    }

pub returns-in_ok-octets-in-Nobody-clause-admits :
    goal.returns-in_ok-octets-in-Nobody-clause-admits
returns-in_ok-octets-in-Nobody-clause-admits c = λ admitted.
    (let h = c.in_ok-cause.ensures.accepts admitted.credentials admitted.shows admitted.accepted in let k = c.in-Nobody.is in cc)

pub returns-in_ok-octets-in-Guess-clause-admits : goal.returns-in_ok-octets-in-Guess-clause-admits
returns-in_ok-octets-in-Guess-clause-admits c = λ admitted.
    (let h = c.in_ok-cause.ensures.accepts admitted.credentials admitted.shows admitted.accepted in let k = c.in-Guess.is in cc)

pub returns-in_ok-octets-in-User-clause-admits : goal.returns-in_ok-octets-in-User-clause-admits
returns-in_ok-octets-in-User-clause-admits c = λ admitted.
    let h : c.in_ok-cause.field-0 ≡ finding.User admitted.credentials.username = c.in_ok-cause.ensures.accepts admitted.credentials admitted.shows admitted.accepted in
    let k = c.in-User.is in
    let own = c.as_str.ensures in
    let name : c.in-User.user ≡ admitted.credentials.username = cc in
    let e : admitted.credentials.username ≡ c.as_str.result.now = cc in
    let may : MayAsk (inquiry_seen c.args.inquiry) c.as_str.result.now c.deref.result.now =
    ask_same (inquiry_seen c.args.inquiry) admitted.credentials.username c.as_str.result.now c.args.self.now.further.items c.deref.result.now e (sym c.deref.ensures.value) admitted.may in
    let yes : c.may_ask.result ≡ true = c.may_ask.ensures.1 may in
    let no = c.if-may_ask.false in
    cc

pub returns-in_ok-octets-in-Guess-clause-concluded : goal.returns-in_ok-octets-in-Guess-clause-concluded
returns-in_ok-octets-in-Guess-clause-concluded c =
    let found : IsFound c.args.self.now.guard (inquiry_seen c.args.inquiry) (finding.Guess c.in-Guess.user) = rw c.in-Guess.is at c.in_ok-cause.ensures.found in
    (found, c.in_ok-octets-in-Guess.ensures)

pub returns-in_ok-octets-in-User-clause-concluded : goal.returns-in_ok-octets-in-User-clause-concluded
returns-in_ok-octets-in-User-clause-concluded c =
    let found : IsFound c.args.self.now.guard (inquiry_seen c.args.inquiry) (finding.User c.in-User.user) = rw c.in-User.is at c.in_ok-cause.ensures.found in
    let k : IsUser c.args.self.now.guard (inquiry_seen c.args.inquiry) c.in-User.user = user_found c.args.self.now.guard (inquiry_seen c.args.inquiry) c.in-User.user found in
    let name : c.in-User.user ≡ k.credentials.username = k.name in
    let e : k.credentials.username ≡ c.as_str.result.now = (let own = c.as_str.ensures in cc) in (
      record {
        credentials = k.credentials;
        shows = k.shows;
        accepted = k.accepted;
        may_not = λ may. (let here = ask_same (inquiry_seen c.args.inquiry) k.credentials.username c.as_str.result.now c.args.self.now.further.items c.deref.result.now e (sym c.deref.ensures.value) may in
            let yes : c.may_ask.result ≡ true = c.may_ask.ensures.1 here in let no = c.if-may_ask.false in absurd cc);
      },
      (let o = c.in_ok-octets-in-User.ensures in let r = c.reply.ensures.request in let s = c.reply.ensures.source in let t = c.reply.ensures.tag in rw (r, s, t) at o),
    )
