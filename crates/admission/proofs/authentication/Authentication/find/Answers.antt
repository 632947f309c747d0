use Rattle.std.proofs.Common.{◌≡◌, ap, sym, subst, inr, ◌∙◌}
use Rattle.digest.specs.declared.credentials.Credentials.{Credentials}
use Rattle.digest.specs.declared.guard.Verdict.{Verdict as Judged}
use Rattle.digest.specs.declared.guard.Verdict.TheVariants as verdict
use Rattle.digest.specs.Verdicts as digest
use Rattle.digest.specs.Verdicts.{IsAccepted, Judges}
use Rattle.admission.specs.declared.authentication.Finding.TheVariants as finding
use Rattle.admission.specs.declared.shown.Shown.TheVariants as shown
use Rattle.admission.specs.Inquiries.{inquiry_seen, asked, told}
use Rattle.admission.proofs.Asking.{moved}
use Rattle.admission.proofs.authentication.Authentication.find.Goals as goal

pub returns-in-Malformed-clause-accepts : goal.returns-in-Malformed-clause-accepts
returns-in-Malformed-clause-accepts c = λ own shows accepted. (let h = c.requires.only own shows in let k = c.in-Malformed.is in absurd cc)

pub returns-clause-found : goal.returns-clause-found
returns-clause-found c = inr (inr (
  c.in_ok-judged.judged,
  record {
    credentials = c.in-Credentials.credentials;
    shows = rw c.in-Credentials.is at c.requires.shown;
    judges = moved (λ (r : digest.Request). Judges c.args.self.now.guard r c.in-Credentials.credentials c.in_ok-judged.judged)
        c.as_str.result.now c.args.inquiry.request.now.method c.as_str-2.result.now c.args.inquiry.request.now.uri c.args.inquiry.source c.args.inquiry.now
        c.as_str.ensures c.as_str-2.ensures c.in_ok-judged.ensures.judges;
  },
  c.told.ensures,
))

pub returns-clause-accepts : goal.returns-clause-accepts
returns-clause-accepts c = λ own shows accepted.
    let h : c.args.shown ≡ shown.Credentials own = c.requires.only own shows in
    let k = c.in-Credentials.is in
    let same : c.in-Credentials.credentials ≡ own = cc in
    let here : IsAccepted c.args.self.now.guard (asked (inquiry_seen c.args.inquiry)) c.in-Credentials.credentials =
    subst (λ (x : Credentials). IsAccepted c.args.self.now.guard (asked (inquiry_seen c.args.inquiry)) x) (sym same) accepted in
    let there = moved (λ (r : digest.Request). IsAccepted c.args.self.now.guard r c.in-Credentials.credentials)
    c.args.inquiry.request.now.method c.as_str.result.now c.args.inquiry.request.now.uri c.as_str-2.result.now c.args.inquiry.source c.args.inquiry.now
    (sym c.as_str.ensures) (sym c.as_str-2.ensures) here in
    let judged : c.in_ok-judged.judged ≡ verdict.Accepted c.in-Credentials.credentials.username = c.in_ok-judged.ensures.accepts there in
    c.told.ensures ∙ ap (λ (v : Judged). told v c.in-Credentials.credentials.username) judged ∙ ap (λ (x : Credentials). finding.User x.username) same
