-- What the words of a command line ask for.
use Rattle.std.specs.Prelude.{ℕ, List, [], ◌∷◌, map, Option, Some, None, option_map, Bool, true, false, cond, ◌==◌, ◌||◌, string_bytes, codes}
use Rattle.std.specs.Str.{bytes_eq}
use Rattle.safl_timing.specs.declared.request.Request as code
use Rattle.safl_timing.specs.declared.request.Asked as code_asked
use Rattle.safl_timing.specs.declared.request.Asked.TheVariants as asked

-- the time of main on arguments; or whether it tells nothing of the secret parameters, those in a list of names or those not in it
pub data Asked : Type 0 where
  Time : (args : List (List ℕ)) → Asked
  Blind : (listed : Bool) (names : List ℕ) → Asked

-- what is asked for, by the source in the file of this name
pub record Request : Type 0 where
  pub input : List ℕ
  pub asked : Asked

abbrev pub asks : List ℕ → Asked → Request
asks input asked = record { input = input; asked = asked }

abbrev pub shown_asked : code_asked.Asked → Asked
shown_asked (asked.Time args) = Time (map string_bytes args.now)
shown_asked (asked.Blind listed names) = Blind listed names.now

abbrev pub shown_request : code.Request → Request
shown_request r = asks r.input.now (shown_asked r.asked)

-- a word is an option if it has a hyphen, and more after it
abbrev pub is_option : List ℕ → Bool
is_option [] = false
is_option (c ∷ []) = false
is_option (c ∷ (d ∷ rest)) = c == 45

abbrev pub has_option : List (List ℕ) → Bool
has_option [] = false
has_option (word ∷ words) = is_option word || has_option words

abbrev pub is_empty : List ℕ → Bool
is_empty [] = true
is_empty (c ∷ cs) = false

-- whether an option has the names of the secret parameters, or of the others
abbrev pub kind_of : List ℕ → Option Bool
kind_of word = cond (bytes_eq word (codes "--secret")) (Some true) (cond (bytes_eq word (codes "--public")) (Some false) None)

-- arguments, none of which is an option
abbrev pub time_of : List (List ℕ) → Option Asked
time_of words = cond (has_option words) None (Some (Time words))

abbrev pub asked_by : Option Bool → List ℕ → List (List ℕ) → Option Asked
asked_by None names words = time_of words
asked_by (Some listed) names words = Some (Blind listed names)

-- an option with a list of names, or arguments
abbrev pub asked_of : List (List ℕ) → Option Asked
asked_of (option ∷ (names ∷ [])) = asked_by (kind_of option) names (option ∷ names ∷ [])
asked_of words = time_of words

-- the name of a file, and what is asked for
abbrev pub request_of : List (List ℕ) → Option Request
request_of [] = None
request_of (input ∷ words) = cond (is_empty input || is_option input) None (option_map (asks input) (asked_of words))
