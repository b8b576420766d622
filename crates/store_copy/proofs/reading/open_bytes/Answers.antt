use Rattle.std.proofs.Common.{◌≡◌, IfErr, subst}
use Rattle.sqlite.specs.Files.{HoldsDatabase}
use Rattle.sqlite.specs.Recovery.{Image}
use Rattle.sqlite.specs.Tree.{Trees}
use Rattle.store_copy.specs.declared.copy_fault.CopyFault.TheVariants.{NoStore}
use Rattle.store_copy.proofs.reading.open_bytes.Goals as goal

pub returns-clause-refused : goal.returns-clause-refused
returns-clause-refused c =
    subst (λ (image : Image). IfErr c.connect.result (λ fault. fault ≡ NoStore → (db : Trees) → HoldsDatabase image db → ⊥)) c.in_ok-files.ensures.image c.connect.ensures.refused
