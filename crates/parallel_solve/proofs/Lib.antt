mod Numbers
mod Accounts
mod Gathering
mod Runs
mod Told
mod Growth
mod Concluding
mod Interrupting
