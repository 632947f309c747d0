-- What the reader of Authorization computes, as functions on lists. The grammar (Grammar) is what they come to.
use Rattle.std.specs.Prelude.{ℕ, List, Option, Some, None, if◌then◌else◌, codes, find}
use Rattle.std.specs.Str.{byte, str_eq_ignore_ascii_case}
use Rattle.sip_text.specs.declared.scan.Class.TheVariants as class
use Rattle.sip_text.specs.Bytes.{is_in}
use Rattle.sip_text.specs.Reading.{◌>>=◌, after_byte, after_spaces, span_at, value_at, elements_of}
use Rattle.digest.specs.declared.directive.Directive.TheVariants as directive
use Rattle.digest.specs.Params.{AuthParam, is_named, value_text}

-- a parameter at the front, and the rest
unfoldable pub auth_param_at : List ℕ → Option (AuthParam × List ℕ)
auth_param_at t = do
  name ← span_at (is_in class.Token) t
  rest ← after_byte (byte "=") (after_spaces name.1)
  value ← value_at (after_spaces rest)
  Some (record { name = name.0; value = value.0 }, value.1)

-- what stands behind the scheme and spaces, if the scheme is Digest
unfoldable pub after_scheme : List ℕ → Option (List ℕ)
after_scheme t = do
  scheme ← span_at (is_in class.Token) t
  spaces ← span_at (is_in class.Space) scheme.1
  if str_eq_ignore_ascii_case scheme.0 (codes "Digest") then Some spaces.1 else None

abbrev pub value_said : Option AuthParam → Option (List ℕ)
value_said None = None
value_said (Some p) = value_text p.value

-- what the first parameter `realm` says
abbrev pub realm_among : List AuthParam → Option (List ℕ)
realm_among params = value_said (find (is_named directive.Realm) params)

-- the realm that a value names
unfoldable pub realm_said : List ℕ → Option (List ℕ)
realm_said value = do
  list ← after_scheme value
  params ← elements_of auth_param_at list
  realm_among params
