-- The task of a command: which files it reads and writes, which contents it refuses, and what it gives for the others.
use Rattle.std.specs.Prelude.{◌≡◌, ℕ, ◌≤◌, List, [], ◌∷◌, ◌++◌, length, Option, Some, IfSome, IsSomeAnd, Bool, true, if◌then◌else◌, OnSome}
use Rattle.std.specs.List.{AllByRecursion}
use Rattle.safl_io.specs.Shelf.{Files, ShelfState, file_of}
use Rattle.safl_task.specs.declared.status.Status.{Status}
use Rattle.safl_task.specs.declared.status.Status.TheVariants as status

-- a file that is read, and its greatest length in bytes
pub record Input : Type 0 where
  pub name : List ℕ
  pub limit : ℕ

-- what a command gives: whether a result came, the text that is printed, and a text for each output file
pub record Given : Type 0 where
  pub comes : Bool
  pub printed : List ℕ
  pub texts : List (List ℕ)

-- a command gives a text that is printed; or a text for its only output file
abbrev pub only_prints : Bool → List ℕ → Given
only_prints comes text = record { comes = comes; printed = text; texts = [] }

abbrev pub only_writes : List ℕ → Given
only_writes text = record { comes = true; printed = []; texts = text ∷ [] }

-- The task of a command: the files that it reads and those that it writes, in order; which contents of its input files it
-- refuses, and with which status and line; what it gives for their contents; and for which contents it promises a result.
pub record Task : Type 1 where
  pub inputs : List Input
  pub outputs : List (List ℕ)
  pub Refuses : List (List ℕ) → Status → List ℕ → Type 0
  pub Gives : List (List ℕ) → Given → Type 0
  pub Promises : List (List ℕ) → Type 0

-- the status by whether a result came
abbrev pub status_if : Bool → Status
status_if comes = if comes then status.Ok else status.NoResult

-- the status of a command that gave this
abbrev pub end_of : Given → Status
end_of g = status_if g.comes

-- the texts with the names of their files
abbrev pub files_of : List (List ℕ) → List (List ℕ) → Files
files_of (name ∷ names) (text ∷ texts) = (name, text) ∷ files_of names texts
files_of _ _ = []

-- if the shelf tells what it holds, it has a file with this name, whose bytes have property P
abbrev pub OfFile : Option Files → List ℕ → (List ℕ → Type 0) → Type 0
OfFile holds name P = IfSome holds (λ (files : Files). IsSomeAnd (file_of files name) P)

-- no stray name was used, if the shelf tells what it holds and had all input files
abbrev pub SameStraysWith : List Input → ShelfState → ShelfState → Type 0
SameStraysWith inputs old new =
    AllByRecursion (λ (i : Input). OfFile old.holds i.name (λ bytes. Unit {0})) inputs → OnSome old.holds (new.strays ≡ old.strays)

-- the contents are within the limits of the inputs. If the shelf tells what it holds, they are those of its files
abbrev pub AreContents : Option Files → List Input → List (List ℕ) → Type 0
AreContents holds [] [] = Unit {0}
AreContents holds (i ∷ is) (c ∷ cs) = (length c ≤ i.limit) × IfSome holds (λ (files : Files). file_of files i.name ≡ Some c) × AreContents holds is cs
AreContents holds _ _ = ⊥

-- the input files have contents with property P
abbrev pub OfInputs : Option Files → List Input → (List (List ℕ) → Type 0) → Type 0
OfInputs holds inputs P = (contents : List (List ℕ)) × AreContents holds inputs contents × P contents

-- the file is one of the inputs, and those before it are there and within their limits
pub record ReachesInput (inputs : List Input) (holds : Option Files) (i : Input) : Type 0 where
  pub before : List Input
  pub after : List Input
  pub is : inputs ≡ before ++ i ∷ after
  pub held : OfInputs holds before (λ contents. Unit {0})

-- there is one file, and its content has property P
abbrev pub Only : (List ℕ → Type 0) → List (List ℕ) → Type 0
Only P (content ∷ []) = P content
Only P _ = ⊥

-- there are two files, and their contents have property P
abbrev pub Both : (List ℕ → List ℕ → Type 0) → List (List ℕ) → Type 0
Both P (first ∷ second ∷ []) = P first second
Both P _ = ⊥

-- ---- commands of the usual forms

-- the task of a command that reads one file; of one that reads two; and of one that reads none
abbrev pub reading : Input → List (List ℕ) → (List ℕ → Status → List ℕ → Type 0) → (List ℕ → Given → Type 0) → (List ℕ → Type 0) → Task
reading input outputs Refuses Gives Promises = record {
  inputs = input ∷ [];
  outputs = outputs;
  Refuses = λ files s line. Only (λ content. Refuses content s line) files;
  Gives = λ files g. Only (λ content. Gives content g) files;
  Promises = Only Promises;
}

abbrev pub reading_both : Input → Input → (List ℕ → List ℕ → Status → List ℕ → Type 0) → (List ℕ → List ℕ → Given → Type 0)
    → (List ℕ → List ℕ → Type 0) → Task
reading_both first second Refuses Gives Promises = record {
  inputs = first ∷ second ∷ [];
  outputs = [];
  Refuses = λ files s line. Both (λ one two. Refuses one two s line) files;
  Gives = λ files g. Both (λ one two. Gives one two g) files;
  Promises = Both Promises;
}

abbrev pub making : (Status → List ℕ → Type 0) → (Given → Type 0) → Type 0 → Task
making Refuses Gives Promise = record {
  inputs = [];
  outputs = [];
  Refuses = λ files s line. Refuses s line;
  Gives = λ files g. Gives g;
  Promises = λ files. Promise;
}

-- ---- parts by name

abbrev pub HoldsInputs : Option Files → List Input → Type 0
HoldsInputs holds is = AllByRecursion (λ (i : Input). OfFile holds i.name (λ bytes. Unit {0})) is
