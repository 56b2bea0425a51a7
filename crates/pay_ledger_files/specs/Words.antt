-- Words for the crates above: what is opened as a ledger at a path, and why nothing is; also where it has to be there already.
pub use Rattle.pay_ledger_files.specs.Files.{fault_of_file, IsUnopened, IsOpenedOf, IsRefusedOf, IsNotOpened, IsNotOpenedFrom, has_meta, IsExistingOf, IsWithoutMeta, IsNotExisting, IsNotExistingIn}
