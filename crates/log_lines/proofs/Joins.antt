-- Lists that grew at their end, a part at a time.
use Rattle.std.proofs.Common.{◌≡◌, List, ◌++◌, ap, ◌∙◌, append_assoc, Result, OnOk}
use Rattle.std.proofs.lemmas.Result.{IfOk-weaker}

pub join2 : {A : Type 0} (a b c p q : List A) → b ≡ a ++ p → c ≡ b ++ q → c ≡ a ++ (p ++ q)
join2 a b c p q e f = f ∙ ap (λ x. x ++ q) e ∙ append_assoc a p q

pub join3 : {A : Type 0} (a b c d p q r : List A) → b ≡ a ++ p → c ≡ b ++ q → d ≡ c ++ r → d ≡ a ++ (p ++ (q ++ r))
join3 a b c d p q r e f g = join2 a b d p (q ++ r) e (join2 b c d q r f g)

pub join4 : {A : Type 0} (a b c d x p q r s : List A) → b ≡ a ++ p → c ≡ b ++ q → d ≡ c ++ r → x ≡ d ++ s → x ≡ a ++ (p ++ (q ++ (r ++ s)))
join4 a b c d x p q r s e f g h = join2 a b x p (q ++ (r ++ s)) e (join3 b c d x q r s f g h)

pub on_ok : {X Y : Type 0} (r : Result X Y) (P Q : Type 0) → (P → Q) → OnOk r P → OnOk r Q
on_ok r P Q f = IfOk-weaker r (λ _. P) (λ _. Q) (λ _ p. f p)
