use Rattle.std.proofs.Common.{◌≡◌, ◌++◌, ℕ, List, [], refl, codes, decimal, arith, append-nil, drop_of_length-le}
use Rattle.std.proofs.lemmas.Fmt.{length-decimal-le}
use Rattle.sip_write.proofs.address.write_ip.Goals as goal

pub write_digits-requires : goal.write_digits-requires
write_digits-requires c =
    let short = length-decimal-le 3 c.from.result (omega arith) (omega (arith, c.from.ensures)) (omega (arith, c.from.ensures)) in
    (omega (arith, short), omega arith)

joined_by_dots : (n a b c d : ℕ) (p q r s t : List ℕ) → p ≡ decimal n ++ q → n ≡ a → q ≡ codes "." ++ (decimal b ++ r) → r ≡ codes "." ++ (decimal c ++ s)
    → s ≡ codes "." ++ (decimal d ++ t) → t ≡ [] → p ≡ decimal a ++ (codes "." ++ (decimal b ++ (codes "." ++ (decimal c ++ (codes "." ++ decimal d)))))
joined_by_dots n a b c d p q r s t first same second third fourth none = rw (first, same, second, third, fourth, none, append-nil (decimal d)) refl

pub returns-clause-written : goal.returns-clause-written
returns-clause-written c =
    joined_by_dots _ _ _ _ _ _ _ _ _ _ c.write_digits.ensures.written c.from.ensures c.write_dotted-second.ensures.written c.write_dotted-third.ensures.written
    c.write_dotted-last.ensures.written (drop_of_length-le c.args.room.now {i = 15} (omega arith))
