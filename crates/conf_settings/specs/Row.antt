-- What is known of an option, apart from the other options.
pub use Rattle.lilo_model.specs.ConfOptions.{opt_name, takes_of, places_of}
