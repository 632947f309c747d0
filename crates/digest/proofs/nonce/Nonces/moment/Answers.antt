use Rattle.std.proofs.Common.{◌≡◌, Some, None, rules, sym, ◌∙◌}
use Rattle.sip_text.specs.Reading.{cut_at, plain_number}
use Rattle.digest.specs.Nonces.{nonce_text}
use Rattle.digest.proofs.NonceTexts.{uncut, unnumbered, unlike}
use Rattle.digest.proofs.nonce.Nonces.moment.Goals as goal

pub returns-in_default : goal.returns-in_default
returns-in_default c =
    let none : cut_at 45 c.args.nonce.now ≡ None = search rules in
    uncut c.args.self.now.secret c.args.source c.args.nonce.now none

pub returns-in_default-plain_number : goal.returns-in_default-plain_number
returns-in_default-plain_number c =
    let cut : cut_at 45 c.args.nonce.now ≡ Some (c.in-Some.digits.now, c.in-Some._seal.now) = search rules in
    let none : plain_number c.in-Some.digits.now ≡ None = search rules in
    unnumbered c.args.self.now.secret c.args.source c.args.nonce.now c.in-Some.digits.now c.in-Some._seal.now cut none

pub returns : goal.returns
returns c =
    let cut : cut_at 45 c.args.nonce.now ≡ Some (c.in-Some.digits.now, c.in-Some._seal.now) = search rules in
    let some : plain_number c.in-Some.digits.now ≡ Some c.in-Some-plain_number.moment = search rules in
    let other : nonce_text c.args.self.now.secret c.in-Some-plain_number.moment c.args.source ≡ c.args.nonce.now → ⊥ = λ e. (
    let same = c.is_same.ensures.1 (c.as_bytes-2.ensures.value ∙ c.as_str.ensures ∙ c.in_ok-own.ensures ∙ e ∙ sym c.as_bytes-3.ensures.value) in
    let not = c.if-is_same.false in
    absurd cc
    ) in
    unlike c.args.self.now.secret c.args.source c.args.nonce.now c.in-Some.digits.now c.in-Some._seal.now cut c.in-Some-plain_number.moment some other
