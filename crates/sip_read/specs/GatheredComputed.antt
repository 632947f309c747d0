-- What the reader computes of all values, header by header.
use Rattle.std.specs.Prelude.{ℕ, Bool, List, [], ◌∷◌, ◌++◌, Option, Some, None, option_map, min, ◌^◌}
use Rattle.std.specs.Str.{byte}
use Rattle.sip_text.specs.Grammar.{number_of}
use Rattle.event_headers.specs.Values.{EventValue}
use Rattle.sip_read.specs.declared.value.Sequence.{Sequence}
use Rattle.sip_read.specs.declared.datagram.Header.TheVariants as headers
use Rattle.sip_read.specs.declared.message.Party.{Party}
use Rattle.sip_read.specs.declared.message.Via.{Via}
use Rattle.sip_read.specs.declared.gathered.Once.{Once}
use Rattle.sip_read.specs.declared.gathered.Once.TheVariants as once
use Rattle.sip_read.specs.AddressesComputed.{contact_of}
use Rattle.sip_read.specs.FieldsComputed.{event_kept, expires_kept}
use Rattle.sip_read.specs.Items.{Item, item}
use Rattle.sip_read.specs.ItemsComputed.{section_of}
use Rattle.sip_read.specs.OnceComputed.{once_more}
use Rattle.sip_read.specs.ValuesComputed.{refer_sub_of}
use Rattle.sip_read.specs.Vias.{via_of}

pub record Fields : Type 0 where
  pub event : Once (Option EventValue)
  pub expires : Once (Option ℕ)
  pub accept : Option (List ℕ)
  pub contact : Once (Option (List ℕ))
  pub refer_to : Once (Option (List ℕ))
  pub refer_sub : Once (Option Bool)
  pub require : List (List ℕ)
  pub record_routes : List (List ℕ)

pub record Gathered : Type 0 where
  pub vias : List (List ℕ)
  pub top : Option Via
  pub from : Once Party
  pub to : Once Party
  pub call_id : Once (List ℕ)
  pub cseq : Once Sequence
  pub content_length : Once ℕ
  pub fields : Fields

abbrev pub fields_nothing : Fields
fields_nothing = record { event = once.Absent; expires = once.Absent; accept = None; contact = once.Absent; refer_to = once.Absent; refer_sub = once.Absent; require = []; record_routes = [] }

abbrev pub nothing : Gathered
nothing = record { vias = []; top = None; from = once.Absent; to = once.Absent; call_id = once.Absent; cseq = once.Absent; content_length = once.Absent; fields = fields_nothing }

-- the Accept lines so far with a comma and a further one
abbrev pub accept_more : Option (List ℕ) → List ℕ → Option (List ℕ)
accept_more None v = Some v
accept_more (Some joined) v = Some (joined ++ byte "," ∷ v)

-- the first one stays
abbrev pub first_or : {A : Type 0} → Option A → A → Option A
first_or None x = Some x
first_or (Some y) x = Some y

abbrev pub with_field : Fields → Item → Fields
with_field f (item headers.Event v) = record f { event = once_more f.event (event_kept v) }
with_field f (item headers.Expires v) = record f { expires = once_more f.expires (expires_kept v) }
with_field f (item headers.Accept v) = record f { accept = accept_more f.accept v }
with_field f (item headers.Contact v) = record f { contact = once_more f.contact (contact_of v) }
with_field f (item headers.ReferTo v) = record f { refer_to = once_more f.refer_to (contact_of v) }
with_field f (item headers.ReferSub v) = record f { refer_sub = once_more f.refer_sub (refer_sub_of v) }
with_field f (item headers.Require v) = record f { require = f.require ++ v ∷ [] }
with_field f (item headers.RecordRoute v) = record f { record_routes = f.record_routes ++ v ∷ [] }
with_field f _ = f

-- the number that digits stand for, or 2 ^ 32 where it is greater
abbrev pub capped : List ℕ → ℕ
capped d = min (number_of d) (2 ^ 32)

abbrev pub with_item : Gathered → Item → Gathered
with_item g (item headers.Via h) = record g { vias = g.vias ++ h.text ∷ []; top = first_or g.top (via_of h) }
with_item g (item headers.From p) = record g { from = once_more g.from p }
with_item g (item headers.To p) = record g { to = once_more g.to p }
with_item g (item headers.CallId v) = record g { call_id = once_more g.call_id v }
with_item g (item headers.CSeq s) = record g { cseq = once_more g.cseq s }
with_item g (item headers.ContentLength d) = record g { content_length = once_more g.content_length (capped d) }
with_item g x = record g { fields = with_field g.fields x }

abbrev pub with_items : Gathered → List Item → Gathered
with_items g [] = g
with_items g (x ∷ xs) = with_items (with_item g x) xs

-- what was gathered with an element of a list, if there is one, and what follows it
abbrev pub with_element : Gathered → Option (Item × List ℕ) → Option (Gathered × List ℕ)
with_element g read = option_map (λ x. (with_item g x.0, x.1)) read

-- what the header lines say beyond what was gathered before, and what follows them
abbrev pub gather : Gathered → List ℕ → Option (Gathered × List ℕ)
gather g t = option_map (λ q. (with_items g q.0, q.1)) (section_of t)
