use Rattle.std.proofs.Common.{◌≡◌, ℕ, List, ◌∷◌, ◌++◌, length, Result, Ok, Err, ap, ◌∙◌, append_assoc}
use Rattle.std.specs.Prelude.{codes, decimal, OnOk}
use Rattle.sip_text.specs.Addresses.{addr_text}
use Rattle.scripts.specs.Script.{lf}
use Rattle.scripts.specs.Page.{notify_text}
use Rattle.scripts.proofs.page.Page.notify.Goals as goal

regroup : (t n a l o : List ℕ) → (codes "NOTIFY " ++ (t ++ 32 ∷ (n ++ 32 ∷ (a ++ 32 ∷ (l ++ lf))))) ++ (o ++ lf) ≡ codes "NOTIFY " ++ (t ++ 32 ∷ (n ++ 32 ∷ (a ++ 32 ∷ (l ++ (lf ++ (o ++ lf))))))
regroup t n a l o = simp append_assoc

on_ok : {T E : Type 0} (r : Result T E) {P Q : Type 0} → OnOk r P → (P → Q) → OnOk r Q
on_ok (Ok x) h f = f h
on_ok (Err e) h f = tt

pub returns-clause-ok : goal.returns-clause-ok
returns-clause-ok c =
    let tag : List ℕ = c.args.tag.now in
    let octets : List ℕ = c.args.octets.now in
    let addr : List ℕ = addr_text c.args.addr in
    let head : c.as_str.result.now ≡ codes "NOTIFY " ++ (tag ++ 32 ∷ (decimal c.args.number ++ 32 ∷ (addr ++ 32 ∷ (decimal (length octets) ++ lf)))) =
    c.as_str.ensures.value ∙ c.in_ok-head.ensures.ok ∙ ap (λ (l : List ℕ). codes "NOTIFY " ++ (tag ++ 32 ∷ (decimal c.args.number ++ 32 ∷ (l ++ 32 ∷ (decimal (length octets) ++ lf))))) c.in_ok-addr.ensures in
    let whole : c.as_str.result.now ++ (octets ++ lf) ≡ notify_text tag c.args.number c.args.addr octets =
    ap (λ (l : List ℕ). l ++ (octets ++ lf)) head ∙ regroup tag (decimal c.args.number) addr (decimal (length octets)) octets in
    on_ok c.add.result c.add.ensures.ok (λ e. e ∙ ap (λ (l : List ℕ). c.args.self.now ++ l) whole)
