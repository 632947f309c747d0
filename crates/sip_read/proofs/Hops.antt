-- A Via value at the front of a text.
use Rattle.std.proofs.Common.{◌≡◌, ℕ, ◌-◌, ◌<◌, Bool, true, false, eqb, cond, List, [], ◌∷◌, ◌++◌, length, take, Option, Some, None, refl, sym, ap, subst, ◌∙◌, append_assoc, arith, find}
use Rattle.std.specs.Prelude.{codes}
use Rattle.std.specs.List.{list_all}
use Rattle.std.specs.Str.{IsUtf8, str_eq_ignore_ascii_case}
use Rattle.std.proofs.lemmas.List.{length-append, take_at}
use Rattle.std.proofs.lemmas.Bool.{eqb-true, eq-eqb}
use Rattle.std.proofs.lemmas.Bool.Decides.{nat_tests}
use Rattle.sip_text.specs.declared.scan.Class.TheVariants as class
use Rattle.sip_text.specs.Bytes.{is_in, is_space}
use Rattle.sip_text.specs.Reading.{◌>>=◌, span_at, after_byte, after_spaces, text_of, some_of, word_at}
use Rattle.sip_text.specs.Grammar.{Parameter, has_name, AreSpaces, IsWord, Stops, IsParameter, IsAssigned, AreParameters}
use Rattle.sip_read.specs.Vias.{Hop, value_of_first, branch_of, IsSlashed, IsProtocol, IsHop}
use Rattle.sip_read.specs.ViasComputed.{taken, slashed_at, version_at, protocol_at, some_text_of, Marks, marks_of, marks_at, hop_at}
use Rattle.sip_text.proofs.Pieces.{bind_some, some_is, and_both, span_takes, span_again, spaces_taken, spaces_again, byte_taken, NoSpace, not_of_space, stops_at_spaces, word_stops_spaces}
use Rattle.sip_text.proofs.Utf8.{text_taken, text_again, text_after_ascii, token_small, space_small, split_text, is_wide}
use Rattle.sip_text.proofs.Groups.{group_takes, group_again, Ends}
use Rattle.sip_text.proofs.Words.{word_at_takes, word_at_again}

-- ---- a word and a slash

pub record TakesSlashed (word t r : List ℕ) : Type 0 where
  pub text : List ℕ
  pub is : IsSlashed word text
  pub whole : t ≡ text ++ r

slashed_takes : (word t r : List ℕ) → slashed_at word t ≡ Some r → TakesSlashed word t r
unfolding slashed_at
slashed_takes word t r e =
    let last = λ (name : List ℕ) (rest : List ℕ). cond {A = Option (List ℕ)} (str_eq_ignore_ascii_case name word) (Some (after_spaces rest)) None in
    let b = bind_some (span_at (is_in class.Token) t) (λ n. after_byte 47 (after_spaces n.1) >>= λ rest. last n.0 rest) r e in
    let d = bind_some (after_byte 47 (after_spaces b.0.1)) (λ rest. last b.0.0 rest) r b.2 in
    let w = span_takes class.Token t b.0.0 b.0.1 b.1 in
    let sa = spaces_taken b.0.1 in
    let sb = spaces_taken d.0 in
    let parts : t ≡ (b.0.0 ++ (sa.0 ++ 47 ∷ sb.0)) ++ after_spaces d.0 =
    w.0 ∙ ap (λ (l : List ℕ). b.0.0 ++ l) (sa.2 ∙ ap (λ (l : List ℕ). sa.0 ++ l) (byte_taken 47 (after_spaces b.0.1) d.0 d.1 ∙ ap (λ (l : List ℕ). 47 ∷ l) sb.2)) ∙ simp append_assoc in
    made b.0.0 sa.0 sb.0 (after_spaces d.0) w.1 sa.1 sb.1 parts (str_eq_ignore_ascii_case b.0.0 word) refl d.2 where
      made : (name left right rest : List ℕ) → IsWord class.Token name → AreSpaces left → AreSpaces right → t ≡ (name ++ (left ++ 47 ∷ right)) ++ rest
          → (q : Bool) → str_eq_ignore_ascii_case name word ≡ q → cond {A = Option (List ℕ)} q (Some rest) None ≡ Some r → TakesSlashed word t r
      made name left right rest w a b parts true same e = record {
        text = name ++ (left ++ 47 ∷ right);
        whole = parts ∙ ap (λ (l : List ℕ). (name ++ (left ++ 47 ∷ right)) ++ l) (some_is rest r e);
        is = record { name = name; left = left; right = right; is_word = w; same = same; spaces_left = a; spaces_right = b; whole = refl };
      }
      made name left right rest w a b parts false other e = absurd cc

token : NoSpace (is_in class.Token)
token = record { sp = refl; ht = refl }

host : NoSpace (is_in class.Host)
host = record { sp = refl; ht = refl }

wide : NoSpace is_wide
wide = record { sp = refl; ht = refl }

slashed_again : (word text rest : List ℕ) → IsSlashed word text → Stops is_space rest → slashed_at word (text ++ rest) ≡ Some rest
unfolding slashed_at
slashed_again word text rest h stops =
    let at : text ++ rest ≡ h.name ++ (h.left ++ 47 ∷ (h.right ++ rest)) = rw h.whole (simp append_assoc) in
    rw (
      at,
      span_again (is_in class.Token) h.name (h.left ++ 47 ∷ (h.right ++ rest)) h.is_word.0 h.is_word.1 (stops_at_spaces (is_in class.Token) token h.left (47 ∷ (h.right ++ rest)) h.spaces_left refl),
      spaces_again h.left (47 ∷ (h.right ++ rest)) h.spaces_left refl,
      h.same,
      spaces_again h.right rest h.spaces_right stops,
    ) refl

slashed_starts : (word text rest : List ℕ) → IsSlashed word text → Stops is_space (text ++ rest)
slashed_starts word text rest h =
    let at : text ++ rest ≡ h.name ++ ((h.left ++ 47 ∷ h.right) ++ rest) = rw h.whole (append_assoc h.name (h.left ++ 47 ∷ h.right) rest) in
    rw at (word_stops_spaces (is_in class.Token) token h.name ((h.left ++ 47 ∷ h.right) ++ rest) h.is_word.0 h.is_word.1)

-- ---- the protocol

record TakesProtocol (t r : List ℕ) : Type 0 where
  text : List ℕ
  is : IsProtocol text
  whole : t ≡ text ++ r

protocol_takes : (t r : List ℕ) → protocol_at t ≡ Some r → TakesProtocol t r
unfolding protocol_at version_at
protocol_takes t r e =
    let d = bind_some (version_at t) (λ b. span_at (is_in class.Token) b >>= λ w. span_at (is_in class.Space) w.1 >>= λ g. Some g.1) r e in
    let b = bind_some (slashed_at (codes "SIP") t) (λ a. slashed_at (codes "2.0") a) d.0 d.1 in
    let f = bind_some (span_at (is_in class.Token) d.0) (λ w. span_at (is_in class.Space) w.1 >>= λ g. Some g.1) r d.2 in
    let g = bind_some (span_at (is_in class.Space) f.0.1) (λ g. Some g.1) r f.2 in
    let one = slashed_takes (codes "SIP") t b.0 b.1 in
    let two = slashed_takes (codes "2.0") b.0 d.0 b.2 in
    let w = span_takes class.Token d.0 f.0.0 f.0.1 f.1 in
    let s = span_takes class.Space f.0.1 g.0.0 g.0.1 g.1 in
    let parts : t ≡ (one.text ++ (two.text ++ (f.0.0 ++ g.0.0))) ++ g.0.1 =
    one.whole ∙ ap (λ (l : List ℕ). one.text ++ l) (two.whole ∙ ap (λ (l : List ℕ). two.text ++ l) (w.0 ∙ ap (λ (l : List ℕ). f.0.0 ++ l) s.0)) ∙ simp append_assoc in
    record {
      text = one.text ++ (two.text ++ (f.0.0 ++ g.0.0));
      whole = parts ∙ ap (λ (l : List ℕ). (one.text ++ (two.text ++ (f.0.0 ++ g.0.0))) ++ l) (some_is g.0.1 r g.2);
      is = record { first = one.text; second = two.text; transport = f.0.0; gap = g.0.0; sip = one.is; version = two.is; is_transport = w.1; spaces = s.1; whole = refl };
    }

-- the name and the version without a space
pub plain_version : (t rest : List ℕ) → t ≡ codes "SIP/2.0/" ++ rest → version_at t ≡ Some (after_spaces rest)
unfolding version_at slashed_at span_at
plain_version t rest e = rw e refl

spaces_stop_token : (x r : List ℕ) → IsWord class.Space x → Stops (is_in class.Token) (x ++ r)
spaces_stop_token [] r w = absurd (w.1 refl)
spaces_stop_token (z ∷ x) r w = not_of_space (is_in class.Token) token z (and_both (is_space z) (list_all is_space x) w.0).0

protocol_again : (text rest : List ℕ) → IsProtocol text → Stops is_space rest → protocol_at (text ++ rest) ≡ Some rest
unfolding protocol_at version_at
protocol_again text rest h stops =
    let at : text ++ rest ≡ h.first ++ (h.second ++ (h.transport ++ (h.gap ++ rest))) = rw h.whole (simp append_assoc) in
    rw (
      at,
      slashed_again (codes "SIP") h.first (h.second ++ (h.transport ++ (h.gap ++ rest))) h.sip (slashed_starts (codes "2.0") h.second (h.transport ++ (h.gap ++ rest)) h.version),
      slashed_again (codes "2.0") h.second (h.transport ++ (h.gap ++ rest)) h.version (word_stops_spaces (is_in class.Token) token h.transport (h.gap ++ rest) h.is_transport.0 h.is_transport.1),
      span_again (is_in class.Token) h.transport (h.gap ++ rest) h.is_transport.0 h.is_transport.1 (spaces_stop_token h.gap rest h.spaces),
      span_again (is_in class.Space) h.gap rest h.spaces.0 h.spaces.1 stops,
    ) refl

-- ---- the values of parameters are texts

group_narrow : (text : List ℕ) (ps : List Parameter) → AreParameters text ps → Stops is_wide text
group_narrow text [] h = rw h tt
group_narrow text (p ∷ ps) h =
    let at : text ≡ h.2.before ++ 59 ∷ ((h.2.behind ++ (p.name ++ h.2.assigned)) ++ h.1) = h.4 ∙ ap (λ (l : List ℕ). l ++ h.1) h.2.whole ∙ append_assoc h.2.before (59 ∷ (h.2.behind ++ (p.name ++ h.2.assigned))) h.1 in
    rw at (stops_at_spaces is_wide wide h.2.before (59 ∷ ((h.2.behind ++ (p.name ++ h.2.assigned)) ++ h.1)) h.2.spaces_before refl)

one_byte : (b : ℕ) → b < 128 → (x : ℕ) → eqb x b ≡ true → x < 128
one_byte b small x e = let k : x ≡ b = eqb-true x b e in omega (arith, k, small)

pub after_one : (b : ℕ) → b < 128 → (r : List ℕ) → IsUtf8 (b ∷ r) → IsUtf8 r
after_one b small r u = text_after_ascii (λ x. eqb x b) (one_byte b small) (b ∷ []) r (rw (eq-eqb b b refl) refl) u

value_text : (text : List ℕ) (p : Parameter) (v : List ℕ) → IsParameter text p → IsUtf8 text → p.value ≡ Some v → IsUtf8 v
value_text text p v h u is =
    let a = text_after_ascii is_space space_small h.before (59 ∷ (h.behind ++ (p.name ++ h.assigned))) h.spaces_before (subst IsUtf8 h.whole u) in
    let b = text_after_ascii is_space space_small h.behind (p.name ++ h.assigned) h.spaces_behind (after_one 59 (omega arith) (h.behind ++ (p.name ++ h.assigned)) a) in
    let c = text_after_ascii (is_in class.Token) token_small p.name h.assigned h.name.0 b in
    let k : IsAssigned h.assigned (Some v) = subst (IsAssigned h.assigned) is h.value in
    let d = text_after_ascii is_space space_small k.0 (61 ∷ (k.1 ++ v)) k.2 (subst IsUtf8 k.5 c) in
    text_after_ascii is_space space_small k.1 v k.3 (after_one 61 (omega arith) (k.1 ++ v) d)

branch_text : (ps : List Parameter) (text : List ℕ) (v : List ℕ) → AreParameters text ps → IsUtf8 text → branch_of ps ≡ Some v → IsUtf8 v
branch_text [] text v h u e = absurd cc
branch_text (p ∷ ps) text v h u e = step (has_name (codes "branch") p) e (branch_text ps h.1 v h.3 cut.1) where
  cut : IsUtf8 h.0 × IsUtf8 h.1
  cut = split_text h.0 h.1 (group_narrow h.1 ps h.3) (subst IsUtf8 h.4 u)

  step : (b : Bool) → value_of_first (cond b (Some p) (find (has_name (codes "branch")) ps)) ≡ Some v → (branch_of ps ≡ Some v → IsUtf8 v) → IsUtf8 v
  step true e f = value_text h.0 p v h.2 cut.0 e
  step false e f = f e

-- ---- a hop

some_text_taken : (o r : Option (List ℕ)) → some_text_of o ≡ Some r → r ≡ o
some_text_taken None r e = sym (some_is None r e)
some_text_taken (Some t) r e =
    let b = bind_some (text_of t) (λ x. Some (Some x)) r e in
    sym (some_is (Some b.0) r b.2) ∙ ap (λ (l : List ℕ). Some l) (text_taken t b.0 b.1).0

some_text_again : (o : Option (List ℕ)) → ((v : List ℕ) → o ≡ Some v → IsUtf8 v) → some_text_of o ≡ Some o
some_text_again None f = refl
some_text_again (Some t) f = rw (text_again t (f t refl)) refl

abbrev hop_from : List ℕ → Marks → Option (List ℕ) → List ℕ → Hop
hop_from s m o x = record { text = x; sent_by = s; branch = o; bare_rport = m.bare_rport }

abbrev some_hop : Hop → List ℕ → Option (Hop × List ℕ)
some_hop h r = Some (h, r)

record Marked (t : List ℕ) (m : Marks) (r : List ℕ) : Type 0 where
  parameters : List Parameter
  found : some_of t ≡ Some (parameters, r)
  same : m ≡ marks_of parameters

marks_take : (t : List ℕ) (m : Marks) (r : List ℕ) → marks_at t ≡ Some (m, r) → Marked t m r
unfolding marks_at
marks_take t m r e =
    let b = bind_some (some_of t) (λ ps. Some (marks_of ps.0, ps.1)) (m, r) e in
    subst (λ (x : Marks × List ℕ). Marked t x.0 x.1) (some_is (marks_of b.0.0, b.0.1) (m, r) b.2) (record { parameters = b.0.0; found = b.1; same = refl })

pub record TakesHop (t : List ℕ) (h : Hop) (r : List ℕ) : Type 0 where
  pub text : List ℕ
  pub is : IsHop text h
  pub whole : t ≡ text ++ r

pub taken_is : (t text r : List ℕ) → t ≡ text ++ r → taken t r ≡ text
taken_is t text r e =
    let n : length t - length r ≡ length text = omega (arith, ap length e, length-append text r) in
    ap (λ (k : ℕ). take k t) n ∙ ap (take (length text)) e ∙ take_at text r (length text) refl

pub hop_takes : (t : List ℕ) (h : Hop) (r : List ℕ) → hop_at t ≡ Some (h, r) → TakesHop t h r
unfolding hop_at
hop_takes t h r e =
    let b = bind_some (protocol_at t) (λ a. word_at (is_in class.Host) a >>= λ w. marks_at w.1 >>= λ m. some_text_of (value_of_first m.0.branch) >>= λ o. text_of (taken t m.1) >>= λ x. some_hop (hop_from w.0 m.0 o x) m.1) (h, r) e in
    let d = bind_some (word_at (is_in class.Host) b.0) (λ w. marks_at w.1 >>= λ m. some_text_of (value_of_first m.0.branch) >>= λ o. text_of (taken t m.1) >>= λ x. some_hop (hop_from w.0 m.0 o x) m.1) (h, r) b.2 in
    let f = bind_some (marks_at d.0.1) (λ m. some_text_of (value_of_first m.0.branch) >>= λ o. text_of (taken t m.1) >>= λ x. some_hop (hop_from d.0.0 m.0 o x) m.1) (h, r) d.2 in
    let g = bind_some (some_text_of (value_of_first f.0.0.branch)) (λ o. text_of (taken t f.0.1) >>= λ x. some_hop (hop_from d.0.0 f.0.0 o x) f.0.1) (h, r) f.2 in
    let i = bind_some (text_of (taken t f.0.1)) (λ x. some_hop (hop_from d.0.0 f.0.0 g.0 x) f.0.1) (h, r) g.2 in
    let p = protocol_takes t b.0 b.1 in
    let w = word_at_takes class.Host b.0 d.0.0 d.0.1 d.1 in
    let m = marks_take d.0.1 f.0.0 f.0.1 f.1 in
    let q = group_takes (length d.0.1) d.0.1 m.parameters f.0.1 m.found in
    let text : List ℕ = p.text ++ (d.0.0 ++ q.text) in
    let parts : t ≡ text ++ f.0.1 =
    p.whole ∙ ap (λ (l : List ℕ). p.text ++ l) (w.0 ∙ ap (λ (l : List ℕ). d.0.0 ++ l) q.whole) ∙ simp append_assoc in
    subst (λ (x : Hop × List ℕ). TakesHop t x.0 x.1) (some_is (hop_from d.0.0 f.0.0 g.0 i.0, f.0.1) (h, r) i.2)
    (record {
      text = text;
      whole = parts;
      is = record {
        protocol = p.text;
        behind = q.text;
        parameters = m.parameters;
        is_protocol = p.is;
        host = w.1;
        are = q.are;
        branch = some_text_taken (value_of_first f.0.0.branch) g.0 g.1 ∙ ap (λ (x : Marks). value_of_first x.branch) m.same;
        bare_rport = ap (λ (x : Marks). x.bare_rport) m.same;
        same = (text_taken (taken t f.0.1) i.0 i.1).0 ∙ taken_is t text f.0.1 parts;
        whole = refl;
      };
    })

host_small : (x : ℕ) → is_in class.Host x ≡ true → x < 128
host_small x e = grind (arith, nat_tests)

group_stops_host : (text : List ℕ) (ps : List Parameter) (rest : List ℕ) → AreParameters text ps → Stops (is_in class.Host) rest → Stops (is_in class.Host) (text ++ rest)
group_stops_host text [] rest h stops = rw h stops
group_stops_host text (p ∷ ps) rest h stops =
    let tail : List ℕ = ((h.2.behind ++ (p.name ++ h.2.assigned)) ++ h.1) ++ rest in
    let at : text ++ rest ≡ h.2.before ++ 59 ∷ tail = rw (h.4, h.2.whole) (simp append_assoc) in
    rw at (stops_at_spaces (is_in class.Host) host h.2.before (59 ∷ tail) h.2.spaces_before refl)

-- the host and what stands behind it in a text are texts
tail_text : (text : List ℕ) (h : Hop) (x : IsHop text h) → IsUtf8 text → IsUtf8 x.behind
tail_text text h x u =
    let k = subst IsUtf8 (x.whole ∙ sym (append_assoc x.protocol h.sent_by x.behind)) u in
    (split_text (x.protocol ++ h.sent_by) x.behind (group_narrow x.behind x.parameters x.are) k).1

pub hop_again : (text : List ℕ) (h : Hop) (rest : List ℕ) → IsHop text h → IsUtf8 text → Ends rest → Stops (is_in class.Host) rest → hop_at (text ++ rest) ≡ Some (h, rest)
unfolding hop_at marks_at
hop_again text h rest x u ends stops =
    let at : text ++ rest ≡ x.protocol ++ (h.sent_by ++ (x.behind ++ rest)) = rw x.whole (simp append_assoc) in
    let one : protocol_at (text ++ rest) ≡ Some (h.sent_by ++ (x.behind ++ rest)) = ap protocol_at at ∙ protocol_again x.protocol (h.sent_by ++ (x.behind ++ rest)) x.is_protocol (word_stops_spaces (is_in class.Host) host h.sent_by (x.behind ++ rest) x.host.0 x.host.1) in
    let two = word_at_again class.Host host_small h.sent_by (x.behind ++ rest) x.host (group_stops_host x.behind x.parameters rest x.are stops) in
    let three : some_of (x.behind ++ rest) ≡ Some (x.parameters, rest) = group_again x.parameters x.behind rest (length (x.behind ++ rest)) x.are ends (omega (arith, length-append x.behind rest)) in
    let four : some_text_of (branch_of x.parameters) ≡ Some (branch_of x.parameters) = some_text_again (branch_of x.parameters) (λ v e. branch_text x.parameters x.behind v x.are (tail_text text h x u) e) in
    rw (one, two, three, four, taken_is (text ++ rest) text rest refl, text_again text u, ← x.branch, ← x.bare_rport, ← x.same) refl

pub hop_starts : (text : List ℕ) (h : Hop) (rest : List ℕ) → IsHop text h → Stops is_space (text ++ rest)
hop_starts text h rest x =
    let p = x.is_protocol in
    let at : text ++ rest ≡ p.first ++ ((p.second ++ (p.transport ++ p.gap)) ++ ((h.sent_by ++ x.behind) ++ rest)) = rw (x.whole, p.whole) (simp append_assoc) in
    rw at (slashed_starts (codes "SIP") p.first ((p.second ++ (p.transport ++ p.gap)) ++ ((h.sent_by ++ x.behind) ++ rest)) p.sip)
