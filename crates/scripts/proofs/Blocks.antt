-- The blocks of a script: what is found is one, and one is found.
use Rattle.std.proofs.Common.{◌≡◌, ℕ, zero, suc, ◌+◌, ◌<◌, ◌≤◌, Bool, true, false, cond, List, [], ◌∷◌, ◌++◌, length, take, drop, Option, Some, None, refl, sym, ap, subst, ◌∙◌, arith, append_assoc}
use Rattle.std.specs.Prelude.{decimal, codes, bytes_eq, nat_lt}
use Rattle.std.specs.List.{flat_map, AllByRecursion}
use Rattle.std.proofs.lemmas.List.{length-append, take-append-drop, take_at, drop_at, length-take-le}
use Rattle.std.proofs.lemmas.Bool.Decides.{nat_tests}
use Rattle.sip_text.specs.declared.address.Addr.{Addr}
use Rattle.scripts.specs.declared.script.Block.{Block}
use Rattle.scripts.specs.declared.script.Block.TheVariants as block
use Rattle.scripts.specs.declared.script.Control.{Control}
use Rattle.scripts.specs.declared.script.Control.TheVariants as control
use Rattle.scripts.specs.declared.error.ScriptError.{ScriptError}
use Rattle.scripts.specs.declared.error.ScriptError.TheVariants as error
use Rattle.sip_text.specs.Reading.{◌>>=◌, cut_at, after_byte, plain_up_to, addr_of}
use Rattle.scripts.specs.Reading.{Fails, octets_at, sip_head, sip_at, named_at, block_of, block_named, block_at, blocks_at, blocks_of}
use Rattle.sip_text.specs.Addresses.{addr_text, IsAddr}
use Rattle.scripts.specs.Script.{sip_text, change_text, control_text, block_text, lf, IsControl, IsBlock, IsScript}
use Rattle.sip_text.proofs.Cuts.{cut_takes, cut_again, Lacks, lacks_append}
use Rattle.sip_text.proofs.Pieces.{bind_some, some_is, byte_taken}
use Rattle.sip_text.proofs.Repeats.{IsRepeated, with_front, fails}
use Rattle.sip_text.proofs.PlainNumbers.{up_to_takes, up_to_again}
use Rattle.sip_text.proofs.Addresses.{addr_takes, addr_again, addr_lacks, decimal_lacks}
use Rattle.scripts.proofs.Lines.{same_text, or_takes, named_takes, HasWord, change_word, tick_word, line_lacks}

-- ---- SIP blocks

octets_take : (n : ℕ) (t x r : List ℕ) → octets_at n t ≡ Some (x, r) → (t ≡ x ++ 10 ∷ r) × (length x ≡ n)
unfolding octets_at
octets_take n t x r e = step (nat_lt (length t) n) refl e where
  step : (b : Bool) → nat_lt (length t) n ≡ b → cond {A = Option (List ℕ × List ℕ)} b None (after_byte 10 (drop n t) >>= λ rest. Some (take n t, rest)) ≡ Some (x, r) → (t ≡ x ++ 10 ∷ r) × (length x ≡ n)
  step true short e = absurd cc
  step false long e =
      let p = bind_some (after_byte 10 (drop n t)) (λ rest. Some (take n t, rest)) (x, r) e in
      let pair = some_is (take n t, p.0) (x, r) p.2 in
      let x-is : take n t ≡ x = ap (λ (q : List ℕ × List ℕ). q.0) pair in
      let r-is : p.0 ≡ r = ap (λ (q : List ℕ × List ℕ). q.1) pair in
      let le : n ≤ length t = grind (arith, nat_tests) in
      let len : length x ≡ n = ap length (sym x-is) ∙ length-take-le n t le in
      (sym (take-append-drop n t) ∙ ap (λ (l : List ℕ). l ++ drop n t) x-is ∙ ap (λ (l : List ℕ). x ++ l) (byte_taken 10 (drop n t) p.0 p.1 ∙ ap (λ (l : List ℕ). 10 ∷ l) r-is), len)

octets_again : (x r : List ℕ) → octets_at (length x) (x ++ 10 ∷ r) ≡ Some (x, r)
unfolding octets_at
octets_again x r =
    let long : nat_lt (length (x ++ 10 ∷ r)) (length x) ≡ false = (let k = length-append x (10 ∷ r) in grind (arith, nat_tests)) in
    rw (long, take_at x (10 ∷ r) (length x) refl, drop_at x (10 ∷ r) (length x) refl) refl

record TakesHead (t : List ℕ) (addr : Addr) (n : ℕ) : Type 0 where
  is_addr : IsAddr addr
  small : n ≤ 65536
  whole : t ≡ addr_text addr ++ 32 ∷ decimal n

head_takes : (t : List ℕ) (addr : Addr) (n : ℕ) → sip_head t ≡ Some (addr, n) → TakesHead t addr n
unfolding sip_head
head_takes t addr n e =
    let last = λ (a : Addr) (m : ℕ). (let l : Option (Addr × ℕ) = Some (a, m) in l) in
    let p = bind_some (cut_at 32 t) (λ x. addr_of x.0 >>= λ a. plain_up_to 65536 x.1 >>= λ m. last a m) (addr, n) e in
    let q = bind_some (addr_of p.0.0) (λ a. plain_up_to 65536 p.0.1 >>= λ m. last a m) (addr, n) p.2 in
    let r = bind_some (plain_up_to 65536 p.0.1) (λ m. last q.0 m) (addr, n) q.2 in
    let a = cut_takes 32 t p.0.0 p.0.1 p.1 in
    let b = addr_takes p.0.0 q.0 q.1 in
    let c = up_to_takes 65536 p.0.1 r.0 r.1 in
    let whole : t ≡ addr_text q.0 ++ 32 ∷ decimal r.0 = a.0 ∙ ap (λ (l : List ℕ). l ++ 32 ∷ p.0.1) b.0 ∙ ap (λ (l : List ℕ). addr_text q.0 ++ 32 ∷ l) c.0 in
    subst (λ (x : Addr × ℕ). TakesHead t x.0 x.1) (some_is (q.0, r.0) (addr, n) r.2) (record { is_addr = b.1; small = c.2; whole = whole })

head_again : (addr : Addr) (n : ℕ) → IsAddr addr → n ≤ 65536 → sip_head (addr_text addr ++ 32 ∷ decimal n) ≡ Some (addr, n)
unfolding sip_head
head_again addr n h le =
    rw (cut_again 32 (addr_text addr) (decimal n) (addr_lacks 32 addr refl refl refl h), addr_again addr h, up_to_again 65536 n le (omega arith)) refl

-- ---- one block

record TakesBlock (t : List ℕ) (b : Block) (r : List ℕ) : Type 0 where
  pub is_block : IsBlock b
  pub whole : t ≡ block_text b ++ r

sip_takes : (head t : List ℕ) (b : Block) (r : List ℕ) → sip_at head t ≡ Some (b, r) → TakesBlock (codes "SIP " ++ (head ++ 10 ∷ t)) b r
unfolding sip_at
sip_takes head t b r e =
    let p = bind_some (sip_head head) (λ h. octets_at h.1 t >>= λ x. Some (block.Sip h.0 x.0, x.1)) (b, r) e in
    let q = bind_some (octets_at p.0.1 t) (λ x. Some (block.Sip p.0.0 x.0, x.1)) (b, r) p.2 in
    let h = head_takes head p.0.0 p.0.1 p.1 in
    let o = octets_take p.0.1 t q.0.0 q.0.1 q.1 in
    made p.0.0 q.0.0 q.0.1 h.is_addr (rw o.1 h.small) (h.whole ∙ ap (λ (n : ℕ). addr_text p.0.0 ++ 32 ∷ decimal n) (sym o.1)) o.0 (some_is (block.Sip p.0.0 q.0.0, q.0.1) (b, r) q.2) where
      made : (a : Addr) (x s : List ℕ) → IsAddr a → length x ≤ 65536 → head ≡ addr_text a ++ 32 ∷ decimal (length x) → t ≡ x ++ 10 ∷ s → ◌≡◌ {A = Block × List ℕ} (block.Sip a x, s) (b, r) → TakesBlock (codes "SIP " ++ (head ++ 10 ∷ t)) b r
      made a x s h le head-is t-is pair =
          let whole : codes "SIP " ++ (head ++ 10 ∷ t) ≡ sip_text a x ++ s = rw (head-is, t-is) (ap (λ (l : List ℕ). codes "SIP " ++ l) (regroup (addr_text a) (decimal (length x)) x s)) in
          subst (λ (z : Block × List ℕ). TakesBlock (codes "SIP " ++ (head ++ 10 ∷ t)) z.0 z.1) pair (record { is_block = (h, le); whole = whole }) where
            regroup : (u v y z : List ℕ) → (u ++ 32 ∷ v) ++ 10 ∷ (y ++ 10 ∷ z) ≡ (u ++ 32 ∷ (v ++ 10 ∷ (y ++ 10 ∷ []))) ++ z
            regroup u v y z = simp append_assoc

abbrev with_rest : List ℕ → Option Control → Option (Block × List ℕ)
with_rest t o = o >>= λ c. block_of c >>= λ x. Some (x, t)

line_takes : (name words t : List ℕ) (b : Block) (r : List ℕ) → with_rest t (named_at name words) ≡ Some (b, r) → TakesBlock ((name ++ 32 ∷ words) ++ 10 ∷ t) b r
line_takes name words t b r e =
    let p = bind_some (named_at name words) (λ c. block_of c >>= λ x. Some (x, t)) (b, r) e in
    let q = bind_some (block_of p.0) (λ x. Some (x, t)) (b, r) p.2 in
    let h = named_takes name words p.0 p.1 in
    subst (λ (z : Block × List ℕ). TakesBlock ((name ++ 32 ∷ words) ++ 10 ∷ t) z.0 z.1) (some_is (q.0, t) (b, r) q.2) (made p.0 q.0 q.1 h.is_control h.whole) where
      ends : (x y z : List ℕ) → x ≡ y → x ++ 10 ∷ z ≡ (y ++ lf) ++ z
      ends x y z same = ap (λ (l : List ℕ). l ++ 10 ∷ z) same ∙ sym (append_assoc y lf z)

      made : (c : Control) (x : Block) → block_of c ≡ Some x → IsControl c → name ++ 32 ∷ words ≡ control_text c → TakesBlock ((name ++ 32 ∷ words) ++ 10 ∷ t) x t
      made (control.Change g) x e h whole = subst (λ (z : Block). TakesBlock ((name ++ 32 ∷ words) ++ 10 ∷ t) z t) (some_is (block.Change g) x e) (record { is_block = h; whole = ends (name ++ 32 ∷ words) (control_text (control.Change g)) t whole })
      made (control.Tick n) x e h whole = subst (λ (z : Block). TakesBlock ((name ++ 32 ∷ words) ++ 10 ∷ t) z t) (some_is (block.Tick n) x e) (record { is_block = h; whole = ends (name ++ 32 ∷ words) (control_text (control.Tick n)) t whole })
      made control.Close x e h whole = absurd cc

block_takes : (t : List ℕ) (b : Block) (r : List ℕ) → block_at t ≡ Some (b, r) → TakesBlock t b r
unfolding block_at block_named
block_takes t b r e =
    let p = bind_some (cut_at 10 t) (λ line. cut_at 32 line.0 >>= λ word. block_named word.0 word.1 line.1) (b, r) e in
    let q = bind_some (cut_at 32 p.0.0) (λ word. block_named word.0 word.1 p.0.1) (b, r) p.2 in
    let a = cut_takes 10 t p.0.0 p.0.1 p.1 in
    let c = cut_takes 32 p.0.0 q.0.0 q.0.1 q.1 in
    let name : List ℕ = q.0.0 in
    let words : List ℕ = q.0.1 in
    let rest : List ℕ = p.0.1 in
    let whole : t ≡ (name ++ 32 ∷ words) ++ 10 ∷ rest = a.0 ∙ ap (λ (l : List ℕ). l ++ 10 ∷ rest) c.0 in
    subst (λ (z : List ℕ). TakesBlock z b r) (sym whole)
    (or_takes (bytes_eq name (codes "SIP")) (sip_at words rest) (with_rest rest (named_at name words)) (b, r) q.2
    (λ same k. subst (λ (z : List ℕ). TakesBlock ((z ++ 32 ∷ words) ++ 10 ∷ rest) b r) (sym (same_text name (codes "SIP") same)) (sip_takes words rest b r k))
    (λ _ k. line_takes name words rest b r k))

sip_again : (addr : Addr) (octets r : List ℕ) → IsAddr addr → length octets ≤ 65536 → block_at (sip_text addr octets ++ r) ≡ Some (block.Sip addr octets, r)
unfolding block_at block_named sip_at
sip_again addr octets r h le =
    let head : List ℕ = addr_text addr ++ 32 ∷ decimal (length octets) in
    let lacks : Lacks 10 (codes "SIP" ++ 32 ∷ head) = lacks_append 10 (codes "SIP ") head refl
    (lacks_append 10 (addr_text addr) (32 ∷ decimal (length octets)) (addr_lacks 10 addr refl refl refl h) (decimal_lacks 10 (length octets) refl (omega arith))) in
    let whole : sip_text addr octets ++ r ≡ (codes "SIP" ++ 32 ∷ head) ++ 10 ∷ (octets ++ 10 ∷ r) = ap (λ (l : List ℕ). codes "SIP " ++ l) (regroup (addr_text addr) (decimal (length octets)) octets r) in
    ap block_at whole ∙ rw (cut_again 10 (codes "SIP" ++ 32 ∷ head) (octets ++ 10 ∷ r) lacks, cut_again 32 (codes "SIP") head refl, head_again addr (length octets) h le, octets_again octets r) refl where
      regroup : (u v y z : List ℕ) → (u ++ 32 ∷ (v ++ 10 ∷ (y ++ 10 ∷ []))) ++ z ≡ (u ++ 32 ∷ v) ++ 10 ∷ (y ++ 10 ∷ z)
      regroup u v y z = simp append_assoc

line_again : (c : Control) (b : Block) (r : List ℕ) → IsControl c → HasWord c → block_of c ≡ Some b → block_at ((control_text c ++ lf) ++ r) ≡ Some (b, r)
unfolding block_at block_named
line_again c b r h w is =
    let whole : (control_text c ++ lf) ++ r ≡ control_text c ++ 10 ∷ r = append_assoc (control_text c) lf r in
    ap block_at whole ∙ rw (cut_again 10 (control_text c) r (line_lacks c h), w.whole, cut_again 32 w.name w.rest w.lacks, w.not_sip, w.named, is) refl

block_again : (b : Block) (r : List ℕ) → IsBlock b → block_at (block_text b ++ r) ≡ Some (b, r)
block_again (block.Sip addr octets) r h = sip_again addr octets r h.0 h.1
block_again (block.Change c) r h = line_again (control.Change c) (block.Change c) r h (change_word c h) refl
block_again (block.Tick n) r h = line_again (control.Tick n) (block.Tick n) r h (tick_word n h) refl

-- no block is empty
block_length : (b : Block) → 0 < length (block_text b)
block_length (block.Sip addr octets) = omega arith
block_length (block.Change c) = let whole : length (change_text c ++ lf) ≡ length (change_text c) + 1 = length-append (change_text c) lf in omega (arith, whole)
block_length (block.Tick n) = omega arith

-- ---- blocks one after the other

nothing_at_end : (b : Block) (r : List ℕ) → block_at [] ≡ Some (b, r) → ⊥
nothing_at_end b r e = let k = block_takes [] b r e in omega (arith, block_length b, ap length k.whole, length-append (block_text b) r)

pub block_shortens : (t : List ℕ) (b : Block) (r : List ℕ) → block_at t ≡ Some (b, r) → length r < length t
block_shortens t b r e = let k = block_takes t b r e in omega (arith, block_length b, ap length k.whole, length-append (block_text b) r)

one_more : (n : ℕ) (t : List ℕ) (b : Block) (r : List ℕ) → block_at t ≡ Some (b, r) → blocks_at (suc n) t ≡ (blocks_at n r >>= λ bs. Some (b ∷ bs))
unfolding blocks_at
one_more n [] b r e = absurd (nothing_at_end b r e)
one_more n (x ∷ xs) b r e = rw e refl

record TakesBlocks (t : List ℕ) (bs : List Block) : Type 0 where
  pub are : AllByRecursion IsBlock bs
  pub whole : t ≡ flat_map block_text bs

blocks_take : (n : ℕ) (t : List ℕ) (bs : List Block) → blocks_at n t ≡ Some bs → TakesBlocks t bs
unfolding blocks_at
blocks_take n [] bs e = subst (TakesBlocks []) (some_is [] bs e) (record { are = tt; whole = refl })
blocks_take zero (x ∷ xs) bs e = absurd cc
blocks_take (suc n) (x ∷ xs) bs e =
    let p = bind_some (block_at (x ∷ xs)) (λ b. blocks_at n b.1 >>= λ cs. Some (b.0 ∷ cs)) bs e in
    let q = bind_some (blocks_at n p.0.1) (λ cs. Some (p.0.0 ∷ cs)) bs p.2 in
    let k = block_takes (x ∷ xs) p.0.0 p.0.1 p.1 in
    let rest = blocks_take n p.0.1 q.0 q.1 in
    subst (TakesBlocks (x ∷ xs)) (some_is (p.0.0 ∷ q.0) bs q.2) (record { are = (k.is_block, rest.are); whole = k.whole ∙ ap (λ (l : List ℕ). block_text p.0.0 ++ l) rest.whole })

pub script_takes : (t : List ℕ) (bs : List Block) → blocks_of t ≡ Some bs → IsScript t bs
script_takes t bs e = let k = blocks_take (length t) t bs e in record { are_blocks = k.are; whole = k.whole }

blocks_again : (bs : List Block) (n : ℕ) → AllByRecursion IsBlock bs → length (flat_map block_text bs) ≤ n → blocks_at n (flat_map block_text bs) ≡ Some bs
unfolding blocks_at
blocks_again [] n h le = refl
blocks_again (b ∷ bs) zero h le = absurd (omega (arith, block_length b, length-append (block_text b) (flat_map block_text bs)))
blocks_again (b ∷ bs) (suc n) h le =
    let short : length (flat_map block_text bs) ≤ n = omega (arith, block_length b, length-append (block_text b) (flat_map block_text bs)) in
    one_more n (block_text b ++ flat_map block_text bs) b (flat_map block_text bs) (block_again b (flat_map block_text bs) h.0) ∙ rw (blocks_again bs n h.1 short) refl

pub script_again : (t : List ℕ) (bs : List Block) → IsScript t bs → blocks_of t ≡ Some bs
script_again t bs h = subst (λ (l : List ℕ). blocks_of l ≡ Some bs) (sym h.whole) (blocks_again bs (length (flat_map block_text bs)) h.are_blocks (omega arith))

-- ---- for the loop

pub blocks_repeat : IsRepeated block_at blocks_at
unfolding blocks_at
blocks_repeat = record { none = λ n. refl; more = λ n y ys. refl; shortens = block_shortens }

pub ends : (front : List Block) (t : List ℕ) (total : Option (List Block)) (e : ScriptError) → with_front front (blocks_of t) ≡ total → 0 < length t → Fails e (block_at t) → Fails e total
ends front t total error.NoMemory so_far some h = tt
ends front t total error.BadScript so_far some h = fails block_at blocks_at blocks_repeat front t total so_far some h
ends front t total error.Device so_far some h = h
