pub mod SomeBelow
