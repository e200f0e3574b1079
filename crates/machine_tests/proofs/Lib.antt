mod Errors
mod Picked
