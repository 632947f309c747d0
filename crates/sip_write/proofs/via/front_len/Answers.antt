use Rattle.std.proofs.Common.{◌≡◌, ◌-◌, ◌≤◌, ℕ, List, length, take, ap, sym, subst, ◌∙◌, arith}
use Rattle.std.specs.List.{suffix_len}
use Rattle.sip_text.specs.Bytes.{is_space}
use Rattle.sip_write.proofs.Cuts.{IsFront, cut_is_front, uncut_is_front, first_cut_le}
use Rattle.sip_write.proofs.via.front_len.Goals as goal

pub returns-then-uncut-text-clause-whole : goal.returns-then-uncut-text-clause-whole
returns-then-uncut-text-clause-whole c = (uncut_is_front c.args.text.now c.uncut_len-uncut.result c.uncut_len-uncut.ensures c.if-uncut-text.true).whole

pub returns-then-uncut-text-clause-rest : goal.returns-then-uncut-text-clause-rest
returns-then-uncut-text-clause-rest c = (uncut_is_front c.args.text.now c.uncut_len-uncut.result c.uncut_len-uncut.ensures c.if-uncut-text.true).rest

pub split_at-requires : goal.split_at-requires
split_at-requires c = first_cut_le c.args.text.now c.uncut_len-uncut.result c.uncut_len-uncut.ensures

is_front : (c : goal.After-kept_len) → IsFront c.args.text.now c.kept_len.result
is_front c =
    let text = c.args.text.now in
    let n = c.uncut_len-uncut.result in
    let kept : c.kept_len.result ≡ length (take n text) - suffix_len is_space (take n text) =
    c.kept_len.ensures.value ∙ ap (λ (x : List ℕ). length x - suffix_len is_space x) c.split_at.ensures.front in
    let some : n ≤ length text = first_cut_le text n c.uncut_len-uncut.ensures in
    let differs = c.if-uncut-text.false in
    subst (λ (i : ℕ). IsFront text i) (sym kept) (cut_is_front text n c.uncut_len-uncut.ensures (omega (arith, differs)))

pub returns-clause-whole : goal.returns-clause-whole
returns-clause-whole c = (is_front c).whole

pub returns-clause-rest : goal.returns-clause-rest
returns-clause-rest c = (is_front c).rest
