-- The Via lines of an answer.
use Rattle.std.proofs.Common.{◌≡◌, ℕ, ◌-◌, ◌<◌, ◌≤◌, Bool, true, false, cond, List, [], ◌∷◌, ◌++◌, refl, sym, ap, ◌∙◌, codes, decimal, map, length, get_or, take, drop, append_assoc, append-nil, arith}
use Rattle.std.specs.Prelude.{bytes_eq, ◌&&◌, not}
use Rattle.std.specs.List.{flat_map}
use Rattle.std.proofs.Math.Seq.{take-length}
use Rattle.sip_text.specs.declared.address.Addr.{Addr}
use Rattle.sip_read.specs.declared.message.Via.{Via}
use Rattle.sip_write.specs.declared.page.Page.{Page}
use Rattle.sip_text.specs.Addresses.{ip_text}
use Rattle.sip_write.specs.Lines.{joined, header}
use Rattle.sip_write.specs.Answer.{via_lines}
use Rattle.sip_write.specs.Pages.{Puts}
use Rattle.sip_write.specs.Via.{top_via_text, marked_parameter, marked_parts, Parts, parts_of, is_received, is_bare_rport, lead_of, host_of}
use Rattle.sip_write.proofs.Pages.{nothing, and_then, same, no_line, more_lines}

-- ---- all Via lines

-- no value, no line
pub no_vias : {a : Page} (source : Addr) (top : Via) (vias : List (List ℕ)) → length vias < 1 → Puts a (joined (via_lines source top vias)) a
no_vias source top [] h = no_line
no_vias source top (via ∷ vias) h = absurd (omega arith)

others_are : (via : List ℕ) (vias : List (List ℕ)) → take (length (via ∷ vias) - 1) (drop 1 (via ∷ vias)) ≡ vias
others_are via vias = let e : length (via ∷ vias) - 1 ≡ length vias = omega arith in rw e (take-length vias)

-- the first value, and the others
pub some_vias : {a b c : Page} (source : Addr) (top : Via) (vias : List (List ℕ)) (d first : List ℕ) → 1 ≤ length vias → first ≡ get_or vias 0 d
    → Puts a (joined (header (codes "Via") (top_via_text source top first) ∷ [])) b
    → Puts b (joined (map (header (codes "Via")) (take (length vias - 1) (drop 1 vias)))) c
    → Puts a (joined (via_lines source top vias)) c
some_vias source top [] d first h is e f = absurd (omega arith)
some_vias source top (via ∷ vias) d first h is e f =
    same
    (ap (λ v. joined (header (codes "Via") (top_via_text source top v) ∷ map (header (codes "Via")) (take (length (via ∷ vias) - 1) (drop 1 (via ∷ vias))))) is
    ∙ ap (λ vs. joined (header (codes "Via") (top_via_text source top via) ∷ map (header (codes "Via")) vs)) (others_are via vias))
    (more_lines _ _ e f)

-- ---- one parameter

pub left_out : (source : Addr) (p : List ℕ) → is_received p ≡ true → marked_parameter source p ≡ []
unfolding marked_parameter
left_out source p is = rw is refl

pub copied : (source : Addr) (p : List ℕ) → is_received p ≡ false → is_bare_rport p ≡ false → marked_parameter source p ≡ p
unfolding marked_parameter
copied source p none other = rw (none, other) refl

pub with_port : (source : Addr) (p : List ℕ) → is_received p ≡ false → is_bare_rport p ≡ true
    → marked_parameter source p ≡ lead_of p ++ (codes "rport=" ++ decimal source.port)
unfolding marked_parameter
with_port source p none is = rw (none, is) refl

-- ---- all parameters

-- what was put of the parameters, and what is left of them
pub record IsPartPut (source : Addr) (text rest : List ℕ) (a b : Page) : Type 0 where
  pub front : (parts_of rest).front ≡ []
  pub part : List ℕ
  pub puts : Puts a part b
  pub whole : part ++ flat_map (marked_parameter source) (parts_of rest).parameters ≡ flat_map (marked_parameter source) (parts_of text).parameters

pub none_put_yet : {a : Page} (source : Addr) (text : List ℕ) → (parts_of text).front ≡ [] → IsPartPut source text text a a
none_put_yet source text front = record { front = front; part = []; puts = nothing; whole = refl }

pub one_more_put : {a b c : Page} (source : Addr) (text rest : List ℕ) (n : ℕ) (p others : List ℕ) → IsPartPut source text rest a b
    → (parts_of rest).parameters ≡ take n rest ∷ (parts_of (drop n rest)).parameters → (parts_of (drop n rest)).front ≡ []
    → p ≡ take n rest → others ≡ drop n rest → Puts b (marked_parameter source p) c → IsPartPut source text others a c
one_more_put source text rest n p others h cut front is behind k =
    let tail : List ℕ = flat_map (marked_parameter source) (parts_of (drop n rest)).parameters in
    record {
      front = ap (λ (x : List ℕ). (parts_of x).front) behind ∙ front;
      part = h.part ++ marked_parameter source p;
      puts = and_then h.puts k;
      whole =
          ap (λ (x : List ℕ). (h.part ++ marked_parameter source p) ++ flat_map (marked_parameter source) (parts_of x).parameters) behind
          ∙ append_assoc h.part (marked_parameter source p) tail
          ∙ ap (λ (x : List ℕ). h.part ++ (marked_parameter source x ++ tail)) is
          ∙ ap (λ (ps : List (List ℕ)). h.part ++ flat_map (marked_parameter source) ps) (sym cut)
          ∙ h.whole;
    }

pub all_are_put : {a b : Page} (source : Addr) (text rest : List ℕ) → (parts_of rest).parameters ≡ [] → IsPartPut source text rest a b
    → Puts a (flat_map (marked_parameter source) (parts_of text).parameters) b
all_are_put source text rest none h =
    same (sym (append-nil h.part) ∙ ap (λ (ps : List (List ℕ)). h.part ++ flat_map (marked_parameter source) ps) (sym none) ∙ h.whole) h.puts

-- ---- the whole value

pub marked_is : (source : Addr) (text : List ℕ) (n : ℕ) (front back : List ℕ) → parts_of text ≡ record { front = take n text; parameters = (parts_of (drop n text)).parameters }
    → front ≡ take n text → back ≡ drop n text
    → front ++ (flat_map (marked_parameter source) (parts_of back).parameters ++ (codes ";received=" ++ ip_text source.ip)) ≡ marked_parts source (parts_of text)
unfolding marked_parts
marked_is source text n front back whole f r =
    let end : List ℕ = codes ";received=" ++ ip_text source.ip in
    ap (λ (x : List ℕ). x ++ (flat_map (marked_parameter source) (parts_of back).parameters ++ end)) f
    ∙ ap (λ (x : List ℕ). take n text ++ (flat_map (marked_parameter source) (parts_of x).parameters ++ end)) r
    ∙ ap (λ (p : Parts). p.front ++ (flat_map (marked_parameter source) p.parameters ++ end)) (sym whole)

pub kept_as_it_is : (source : Addr) (top : Via) (text ip : List ℕ) (test : Bool) → test ≡ (not top.bare_rport && bytes_eq (host_of top.sent_by) ip)
    → ip ≡ ip_text source.ip → test ≡ true → text ≡ top_via_text source top text
unfolding top_via_text
kept_as_it_is source top text ip test is same holds =
    let e : (not top.bare_rport && bytes_eq (host_of top.sent_by) (ip_text source.ip)) ≡ true =
    ap (λ (x : List ℕ). not top.bare_rport && bytes_eq (host_of top.sent_by) x) (sym same) ∙ sym is ∙ holds in
    sym (ap (λ (b : Bool). cond b text (marked_parts source (parts_of text))) e)

pub written_into : (source : Addr) (top : Via) (text ip : List ℕ) (test : Bool) → test ≡ (not top.bare_rport && bytes_eq (host_of top.sent_by) ip)
    → ip ≡ ip_text source.ip → test ≡ false → marked_parts source (parts_of text) ≡ top_via_text source top text
unfolding top_via_text
written_into source top text ip test is same fails =
    let e : (not top.bare_rport && bytes_eq (host_of top.sent_by) (ip_text source.ip)) ≡ false =
    ap (λ (x : List ℕ). not top.bare_rport && bytes_eq (host_of top.sent_by) x) (sym same) ∙ sym is ∙ fails in
    sym (ap (λ (b : Bool). cond b text (marked_parts source (parts_of text))) e)
