-- An Expires value.
use Rattle.std.proofs.Common.{◌≡◌, ◌^◌, ℕ, true, false, List, Some, refl, sym}
use Rattle.std.proofs.lemmas.Bool.{ltb-true, lt-ltb}
use Rattle.sip_text.specs.Reading.{digits_of}
use Rattle.event_headers.specs.HeaderReading.{expires_of, expires_fits}
use Rattle.sip_text.specs.Grammar.{number_of}
use Rattle.event_headers.specs.Headers.{IsExpires, Fits}
use Rattle.sip_text.proofs.Pieces.{bind_some, some_is}
use Rattle.sip_text.proofs.Framing.{digits_take, digits_again}

pub expires_takes : (t : List ℕ) (n : ℕ) → expires_of t ≡ Some n → IsExpires t n
unfolding expires_of
expires_takes t n h =
    let b = bind_some (digits_of t) (λ d. Some (number_of d)) n h in
    let d = digits_take t b.0 b.1 in
    record { left = d.left; digits = b.0; right = d.right; spaces_left = d.spaces_left; spaces_right = d.spaces_right; are_digits = d.are_digits; kept = sym (some_is (number_of b.0) n b.2); whole = d.whole }

pub expires_again : (t : List ℕ) (n : ℕ) → IsExpires t n → expires_of t ≡ Some n
unfolding expires_of
expires_again t n h =
    let one = digits_again t h.digits (record { left = h.left; right = h.right; spaces_left = h.spaces_left; spaces_right = h.spaces_right; are_digits = h.are_digits; whole = h.whole }) in
    rw (one, h.kept) refl

pub expires_fit : (n : ℕ) → expires_fits n ≡ true → Fits n
expires_fit n h = ltb-true n (2 ^ 32) h

pub expires_large : (n : ℕ) → expires_fits n ≡ false → ¬ (Fits n)
expires_large n h = λ k. (let a : expires_fits n ≡ true = lt-ltb n (2 ^ 32) k in absurd cc)
