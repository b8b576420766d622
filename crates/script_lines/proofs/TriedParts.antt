-- How the interfaces that were tried are gathered, part by part.
use Rattle.std.proofs.Common.{◌≡◌, ◌<◌, ◌+◌, ℕ, List, [], ◌∷◌, ◌++◌, Option, Some, None, Bor, IfSome, length, refl, append_assoc, arith}
use Rattle.std.specs.List.{filter_map}
use Rattle.ami_session.specs.FieldValues.{name_of}

-- a part that is an interface is gathered
pub kept : (tried : List (List ℕ)) (part name : List ℕ) (parts : List (List ℕ)) → name_of part ≡ Some name
    → (tried ++ name ∷ []) ++ filter_map name_of parts ≡ tried ++ filter_map name_of (part ∷ parts)
kept tried part name parts is = rw is (append_assoc tried (name ∷ []) (filter_map name_of parts))

-- one that is none is left out
pub left_out : (tried : List (List ℕ)) (part : List ℕ) (parts : List (List ℕ)) → name_of part ≡ None
    → tried ++ filter_map name_of parts ≡ tried ++ filter_map name_of (part ∷ parts)
left_out tried part parts is = rw is refl

-- how many bytes are left, and one more; 0 where no part is left
abbrev pub length_left : Option (Bor (List ℕ)) → ℕ
length_left None = 0
length_left (Some rest) = length rest.now + 1

-- behind a part fewer are left
pub fewer_left : (others : Option (Bor (List ℕ))) (n : ℕ) → IfSome others (λ rest. length rest.now < n) → length_left others < n + 1
fewer_left None n shorter = omega arith
fewer_left (Some rest) n shorter = omega (arith, shorter)
