-- Why an open finds no database.
use Rattle.std.proofs.Common.{◌≡◌, inl, inr, ℕ, sym, ◌∙◌}
use Rattle.sqlite.specs.Opening.{FailsAs}
use Rattle.sqlite.specs.State.{store_error}
use Rattle.sqlite.specs.declared.error.Error.{Error}
use Rattle.sqlite.specs.declared.error.Error.TheVariants.{SqliteFailure}
use Rattle.sqlite.specs.declared.error.ErrorCode.TheVariants.{NotADatabase}
use Rattle.sqlite_trees.specs.declared.error.StoreError.{StoreError}
use Rattle.sqlite_trees.specs.declared.error.StoreError.TheVariants.{Broken, Corrupt, Full, Io, OutOfMemory, Unstorable}

-- no fault of a disk has that name
never_named : (kind : StoreError) → SqliteFailure NotADatabase ≡ store_error kind → ⊥
never_named OutOfMemory is = cc
never_named Io is = cc
never_named Corrupt is = cc
never_named Full is = cc
never_named Broken is = cc
never_named Unstorable is = cc

-- files that are refused as no database hold none
pub holds_none : (kind : StoreError) (old new : ℕ) (AtLimit Wanted : Type 0) (e : Error) → e ≡ SqliteFailure NotADatabase → FailsAs kind old new AtLimit Wanted e → Wanted → ⊥
holds_none kind old new AtLimit Wanted e is (inl memory) some = cc
holds_none kind old new AtLimit Wanted e is (inr (inl refused)) some = refused.1 some
holds_none kind old new AtLimit Wanted e is (inr (inr (inl fault))) some = never_named kind (sym is ∙ fault.0)
holds_none kind old new AtLimit Wanted e is (inr (inr (inr full))) some = cc
