-- The limits as numbers. Definitions cite them by name, so here alone a limit that moves is refused.
use Rattle.std.specs.Prelude.{◌≡◌, ◌^◌, pos}
use Rattle.ck_base.specs.declared.limits.TheConstants.{RATE, MAX_FILES, MAX_FILE_BYTES, MAX_FILE_TOKENS, MAX_NAME_WORD_BYTES, MAX_NESTING, MAX_ANCESTORS, MAX_CALLS, FRESH_TURNS, MAX_SPORKS, MAX_TEXT_BYTES, MAX_ITEMS, MAX_DELAY, MAX_CONNECTIONS, MAX_OBJECTS, MAX_SAMPLES}

-- the limits of the language and of its machine
pub record HasItsLimits : Type 0 where
  pub rate : RATE ≡ 44_100
  pub files : MAX_FILES ≡ 64
  pub file_bytes : MAX_FILE_BYTES ≡ 1_048_576
  pub file_tokens : MAX_FILE_TOKENS ≡ 1_048_577
  pub name_word_bytes : MAX_NAME_WORD_BYTES ≡ 4_096
  pub nesting : MAX_NESTING ≡ 128
  pub ancestors : MAX_ANCESTORS ≡ 128
  pub calls : MAX_CALLS ≡ 1_000
  pub turns : FRESH_TURNS ≡ 1_000_000
  pub sporks : MAX_SPORKS ≡ 4_096
  pub text_bytes : MAX_TEXT_BYTES ≡ 65_536
  pub items : MAX_ITEMS ≡ pos 1_048_576
  pub delay : MAX_DELAY ≡ pos 1_048_576
  pub connections : MAX_CONNECTIONS ≡ 4_096
  pub objects : MAX_OBJECTS ≡ 2 ^ 48
  pub samples : MAX_SAMPLES ≡ 500_000_000
