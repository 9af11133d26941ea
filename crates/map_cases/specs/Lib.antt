pub mod InstallCase
