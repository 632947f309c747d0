-- A Refer-Sub value.
use Rattle.std.proofs.Common.{◌≡◌, ℕ, Bool, List, Some}
use Rattle.sip_text.specs.Reading.{token_with}
use Rattle.sip_text.proofs.Framing.{token_with_takes, token_with_again}
use Rattle.sip_text.proofs.Pieces.{bind_some}
use Rattle.sip_read.specs.ReferSub.{truth_of, IsReferSub}
use Rattle.sip_read.specs.ValuesComputed.{refer_sub_of}

pub refer_sub_takes : (t : List ℕ) (b : Bool) → refer_sub_of t ≡ Some b → IsReferSub t b
unfolding refer_sub_of
refer_sub_takes t b e =
    let x = bind_some (token_with t) (λ x. truth_of x.0) b e in
    (x.0.0, x.0.1, token_with_takes t x.0.0 x.0.1 x.1, x.2)

pub refer_sub_again : (t : List ℕ) (b : Bool) → IsReferSub t b → refer_sub_of t ≡ Some b
unfolding refer_sub_of
refer_sub_again t b h = rw (token_with_again t h.0 h.1 h.2) h.3
