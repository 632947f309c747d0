use Rattle.std.proofs.Common.{◌≡◌, Some, None, rules}
use Rattle.sip_text.specs.Reading.{elements_of}
use Rattle.digest.specs.Reading.{after_scheme, auth_param_at}
use Rattle.digest.specs.Views.{all_seen}
use Rattle.digest.proofs.AuthParams.{no_scheme}
use Rattle.digest.proofs.Sayings.{says, has, malformed, none, only}
use Rattle.digest.proofs.credentials.Credentials.read.Goals as goal

pub returns-in_default-clause-said : goal.returns-in_default-clause-said
returns-in_default-clause-said c =
    let cut : after_scheme c.args.value.now ≡ None = search rules in
    no_scheme c.args.value.now cut

pub returns-in_default-clause-only : goal.returns-in_default-clause-only
returns-in_default-clause-only c =
    let cut : after_scheme c.args.value.now ≡ None = search rules in
    λ ps h. absurd (no_scheme c.args.value.now cut h.list h.digest)

pub returns-in_default-2-clause-said : goal.returns-in_default-2-clause-said
returns-in_default-2-clause-said c =
    let cut : after_scheme c.args.value.now ≡ Some c.in-Some.list.now = search rules in
    let e : elements_of auth_param_at c.in-Some.list.now ≡ None = rw c.in_default-2.is at c.in_ok-params.ensures in
    malformed c.args.value.now c.in-Some.list.now cut e

pub returns-in_default-2-clause-only : goal.returns-in_default-2-clause-only
returns-in_default-2-clause-only c =
    let cut : after_scheme c.args.value.now ≡ Some c.in-Some.list.now = search rules in
    let e : elements_of auth_param_at c.in-Some.list.now ≡ None = rw c.in_default-2.is at c.in_ok-params.ensures in
    λ ps h. absurd (none c.args.value.now c.in-Some.list.now cut e ps h)

pub returns-clause-said : goal.returns-clause-said
returns-clause-said c =
    let cut : after_scheme c.args.value.now ≡ Some c.in-Some.list.now = search rules in
    let ps = all_seen c.in-Some-2.params.items in
    let e : elements_of auth_param_at c.in-Some.list.now ≡ Some ps = rw c.in-Some-2.is at c.in_ok-params.ensures in
    says c.args.value.now ps c.credentials_said.result (has c.args.value.now c.in-Some.list.now cut ps e) (rw c.deref.ensures.value at c.credentials_said.ensures)

pub returns-clause-only : goal.returns-clause-only
returns-clause-only c =
    let cut : after_scheme c.args.value.now ≡ Some c.in-Some.list.now = search rules in
    let ps = all_seen c.in-Some-2.params.items in
    let e : elements_of auth_param_at c.in-Some.list.now ≡ Some ps = rw c.in-Some-2.is at c.in_ok-params.ensures in
    λ other h. only c.args.value.now c.in-Some.list.now cut ps other c.credentials_said.result e (rw c.deref.ensures.value at c.credentials_said.ensures) h
